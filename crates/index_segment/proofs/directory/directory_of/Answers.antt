use Rattle.std.proofs.Common.{◌≡◌, ◌+◌, ap, sym, ◌∙◌, arith, ◌∷◌, map, pos, suc}
use Rattle.std.proofs.Common.{◌<◌, ◌^◌, w64}
use Rattle.std.proofs.lemmas.Int.{to_z_pos}
use Rattle.index_segment.specs.Directory.{row_keys, run_of, runs_of, starts_from}
use Rattle.index_segment.specs.Spelling.{counted}
use Rattle.index_segment.proofs.Runs.{moved, taken_run}
use Rattle.index_segment.proofs.directory.directory_of.Goals as goal

pub loop-row-preserved : goal.loop-row-preserved
loop-row-preserved c =
    let more = c.count_of_series-more.result in
    let rest = runs_of (row_keys c.split_at.result.1.now) in
    let cases = c.in-Some.ensures.cases in
    let taken : runs_of (row_keys c.loop-row.left.now) ≡ run_of c.in-Some.row.now.key (suc more) ∷ rest = taken_run c.loop-row.left.now c.in-Some.behind.now c.split_at.result.1.now c.in-Some.row.now more cases.0 c.count_of_series-more.ensures.count c.split_at.ensures.back in
    let same : pos (suc more) ≡ pos (1 + more) = ap pos (omega arith) in
    let few : 1 + more < 2 ^ 63 = omega (arith, cases.1, c.count_of_series-more.ensures.within, c.loop-row.invariant.within, c.requires) in
    record {
      within = omega (arith, cases.1, c.split_at.ensures.back_len, c.count_of_series-more.ensures.within, c.loop-row.invariant.within);
      keys = moved _ c.loop-row.keys.items (map (λ run. run.key) (runs_of (row_keys c.loop-row.left.now))) (map (λ run. run.key) rest) _ _ c.in_ok-push.ensures.items (ap (map (λ run. run.key)) taken ∙ ap (λ key. key ∷ map (λ run. run.key) rest) (sym c.in_ok-copy.ensures)) c.loop-row.invariant.keys;
      starts = moved _ c.loop-row.starts.items (starts_from c.loop-row.start (map (λ run. run.size) (runs_of (row_keys c.loop-row.left.now)))) _ _ _ c.in_ok-push-2.ensures.items (ap (λ runs. starts_from c.loop-row.start (map (λ run. run.size) runs)) taken ∙ ap (λ n. c.loop-row.start ∷ starts_from n (map (λ run. run.size) rest)) (let same : c.loop-row.start + suc more ≡ c.loop-row.start + (1 + more) = omega arith in same)) c.loop-row.invariant.starts;
      sizes = moved _ c.loop-row.sizes.items (counted (map (λ run. run.size) (runs_of (row_keys c.loop-row.left.now)))) _ _ _ c.in_ok-push-3.ensures.items (ap (λ runs. counted (map (λ run. run.size) runs)) taken ∙ ap (λ z. z ∷ counted (map (λ run. run.size) rest)) (same ∙ sym (to_z_pos w64 (1 + more) few))) c.loop-row.invariant.sizes;
    }
