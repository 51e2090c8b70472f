use Rattle.std.proofs.Common.{◌≡◌, sym, ap, ◌∙◌, to_z-of_z, FitsSigned, w64, rules}
use Rattle.time_text.specs.Printed.{day_text, instant_text}
use Rattle.index_names.specs.Reading.{midnight}
use Rattle.index_names.proofs.ReadingLemmas.{written, written_is, midnight_in_range, midnight_is, day_at_midnight, not_unequal}
use Rattle.index_names.proofs.reading.read_day.Goals as goal

pub returns-in_default-clause-none : goal.returns-in_default-clause-none
returns-in_default-clause-none c = λ none t is same.
    let shown : written c.args.shown.now ≡ instant_text (midnight t) = ap written (sym same) ∙ written_is t in
    let read = c.in_default.ensures.reads (midnight t) (midnight_in_range t is) shown in
    absurd cc

pub returns-else-eq-clause-none : goal.returns-else-eq-clause-none
returns-else-eq-clause-none c = λ none t is same.
    let shown : written c.args.shown.now ≡ instant_text (midnight t) = ap written (sym same) ∙ written_is t in
    let read = c.in-Some.ensures.reads (midnight t) (midnight_in_range t is) shown in
    let first : c.in-Some.instant ≡ midnight t = cc in
    let fits : FitsSigned w64 c.in-Some.instant = search rules in
    let day : c.midnight_of-day.result ≡ midnight c.in-Some.instant = c.midnight_of-day.ensures.midnight ∙ ap midnight (to_z-of_z fits) in
    let day_fits : FitsSigned w64 c.midnight_of-day.result = search rules in
    let text : c.print_day.result ≡ day_text c.midnight_of-day.result = c.print_day.ensures.text ∙ ap day_text (to_z-of_z day_fits) in
    let again : day_text c.midnight_of-day.result ≡ day_text t = ap day_text (day ∙ ap midnight first ∙ midnight_is t) ∙ day_at_midnight t in
    let shows : c.as_slice.result.now ≡ c.args.shown.now = c.as_slice.ensures ∙ text ∙ again ∙ same in
    not_unequal c.as_slice.result.now c.args.shown.now c.if-eq.ensures shows
