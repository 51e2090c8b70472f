use Rattle.std.proofs.Common.{refl, subst, sym, ap, ◌∙◌, arith, to_z-of_z, FitsSigned, w64, rules}
use Rattle.std.specs.Prelude.{IsTrue}
use Rattle.index_names.specs.Backing.{backing_name}
use Rattle.index_names.specs.Names.{is_stream_name}
use Rattle.index_names.specs.Reading.{IsToldBy}
use Rattle.index_names.proofs.ReadingLemmas.{parts_of, long_enough, joined_is}
use Rattle.index_names.proofs.reading.read_backing_name.Goals as goal

pub returns-in_err-cut-clause-none : goal.returns-in_err-cut-clause-none
returns-in_err-cut-clause-none c = λ none is.
    let short = c.in_err-cut.ensures in
    omega (arith, short, long_enough c.args.name.now is)

pub returns-then-not-is_framed-clause-none : goal.returns-then-not-is_framed-clause-none
returns-then-not-is_framed-clause-none c = λ none is.
    let parts = parts_of c.in_ok-cut.cut c.args.name.now is.0 is.1 is.2 c.in_ok-cut.ensures is.3 in
    let framed = c.is_framed.ensures.1 parts.framed in
    absurd (cc (framed, c.if-not-is_framed.true))

pub returns-in_err-stream-clause-none : goal.returns-in_err-stream-clause-none
returns-in_err-stream-clause-none c = λ none is.
    let parts = parts_of c.in_ok-cut.cut c.args.name.now is.0 is.1 is.2 c.in_ok-cut.ensures is.3 in
    c.in_err-stream.ensures (subst (λ s. IsTrue (is_stream_name s)) (sym parts.stream) is.3.of_stream)

pub returns-in_err-day-clause-none : goal.returns-in_err-day-clause-none
returns-in_err-day-clause-none c = λ none is.
    let parts = parts_of c.in_ok-cut.cut c.args.name.now is.0 is.1 is.2 c.in_ok-cut.ensures is.3 in
    c.in_err-day.ensures.none refl is.1 is.3.at_instant parts.day

pub returns-in_err-generation-clause-none : goal.returns-in_err-generation-clause-none
returns-in_err-generation-clause-none c = λ none is.
    let parts = parts_of c.in_ok-cut.cut c.args.name.now is.0 is.1 is.2 c.in_ok-cut.ensures is.3 in
    c.in_err-generation.ensures.none refl is.2 is.3.within parts.generation

pub returns-clause-told : goal.returns-clause-told
returns-clause-told c =
    let stream = c.in_ok-stream.ensures in
    let day = c.in_ok-day.ensures.day in
    let generation = c.in_ok-generation.ensures.generation in
    let framed = c.is_framed.ensures.0 c.if-not-is_framed.false in
    let joined = joined_is c.in_ok-cut.cut c.args.name.now c.in_ok-day.day c.in_ok-generation.generation c.in_ok-cut.ensures framed day.text generation.text in
    let told : IsToldBy c.in_ok-stream.stream.now c.in_ok-day.day c.in_ok-generation.generation c.args.name.now = record {
      name_of = record {
        of_stream = subst (λ s. IsTrue (is_stream_name s)) (sym stream.1) stream.0;
        at_instant = day.in_range;
        within = generation.in_range;
        printed = joined ∙ ap (λ s. backing_name s c.in_ok-day.day c.in_ok-generation.generation) (sym stream.1);
      };
      at_midnight = day.at_midnight;
    } in
    let fits : FitsSigned w64 c.in_ok-day.day = search rules in
    simp to_z-of_z told
