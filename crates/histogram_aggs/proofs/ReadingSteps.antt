-- Steps of reading: one aggregation more, and wrong fields in two parts.
use Rattle.std.proofs.Common.{◌≡◌, ◌<◌, ◌+◌, ℕ, List, [], ◌∷◌, ◌++◌, length, drop, get_or, add-one, drop-cons, Option, Some, None, refl, ap, ◌∙◌}
use Rattle.std.specs.Prelude.{option_map}
use Rattle.row_cells.specs.declared.schemas.Field.{Field}
use Rattle.histogram_aggs.specs.declared.aggs.Agg.{Agg, Agg-F, fold-Agg, fold-roll-Agg, fold_out-Agg, out-Agg, roll-Agg}
use Rattle.histogram_aggs.specs.declared.saying.Said.{Said}
use Rattle.histogram_aggs.specs.Asks.{Asks, ask}
use Rattle.histogram_aggs.specs.Reading.{Wrong, field_at, lesser, least_with, listed, named_in_front, wrong_at, wrongs_of}
use Rattle.histogram_aggs.specs.Seen.{seen, seen_before, seen_step}

-- one more stands behind those before, and in front of others
pub seen_before_push : (aggs : List Agg) (agg : Agg) (others : Asks) → seen_before (aggs ++ agg ∷ []) others ≡ seen_before aggs (seen_before (agg ∷ []) others)
seen_before_push [] agg others = refl
seen_before_push (first ∷ aggs) agg others = ap (λ rest. fold-Agg (Asks → Asks) seen_step first rest) (seen_before_push aggs agg others)

pub least_with_append : (held : Option Wrong) (vs ws : List Wrong) → least_with held (vs ++ ws) ≡ least_with (least_with held vs) ws
least_with_append held [] ws = refl
least_with_append held (v ∷ vs) ws = least_with_append (lesser held v) vs ws

-- an aggregation in front of others, opened
pub seen_opened : (agg : Agg) (others : Asks) → seen_before (agg ∷ []) others ≡ ask (out-Agg agg).name (out-Agg agg).kind (out-Agg agg).field (seen (out-Agg agg).subs) others
seen_opened agg others = ap (λ (f : Asks → Asks). f others) (fold_out-Agg (Asks → Asks) seen_step agg)

seen_rolled : (agg : Agg-F Agg) (others : Asks) → seen_before (roll-Agg agg ∷ []) others ≡ ask agg.name agg.kind agg.field (seen agg.subs) others
seen_rolled agg others = ap (λ (f : Asks → Asks). f others) (fold-roll-Agg (Asks → Asks) seen_step agg)

pub named_step : (aggs : List Agg) (name : List ℕ) (said : Said) (below : List Agg) (rest : Option Asks) →
    option_map (seen_before (aggs ++ roll-Agg (record { name = name; kind = said.kind; field = said.field; subs = below }) ∷ [])) rest ≡ option_map (seen_before aggs) (named_in_front name (Some (record { said = said; below = seen below })) rest)
named_step aggs name said below None = refl
named_step aggs name said below (Some rest) =
    let agg : Agg-F Agg = record { name = name; kind = said.kind; field = said.field; subs = below } in
    ap Some (seen_before_push aggs (roll-Agg agg) rest ∙ ap (seen_before aggs) (seen_rolled agg rest))

pub drop_here : {S : Type 0} (xs : List S) (i : ℕ) (x : S) → i < length xs → x ≡ get_or xs i x → drop i xs ≡ x ∷ drop (i + 1) xs
drop_here xs i x lt is = rw (add-one, drop-cons xs i x, ← is) refl

-- what is wrong of one aggregation, of those below it and of those behind it
pub least_step : (fields : List Field) (aggs : List Agg) (at : ℕ) (agg : Agg) (held : Option Wrong) → at < length aggs → agg ≡ get_or aggs at agg →
    least_with held (wrongs_of fields (seen (drop at aggs)))
    ≡ least_with (least_with (least_with held (listed (wrong_at (out-Agg agg).kind (field_at fields (out-Agg agg).field)))) (wrongs_of fields (seen (out-Agg agg).subs))) (wrongs_of fields (seen (drop (at + 1) aggs)))
least_step fields aggs at agg held lt is =
    let rest = seen (drop (at + 1) aggs) in
    let mine = listed (wrong_at (out-Agg agg).kind (field_at fields (out-Agg agg).field)) in
    let below = wrongs_of fields (seen (out-Agg agg).subs) in
    ap (λ left. least_with held (wrongs_of fields (seen left))) (drop_here aggs at agg lt is)
    ∙ (ap (λ asks. least_with held (wrongs_of fields asks)) (seen_opened agg rest)
    ∙ (least_with_append held mine (below ++ wrongs_of fields rest) ∙ least_with_append (least_with held mine) below (wrongs_of fields rest)))
