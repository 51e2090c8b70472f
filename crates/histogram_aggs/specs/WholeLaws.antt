-- Several indices, each shown folded or as it came, answer aligned aggregations alike.
use Rattle.std.specs.Prelude.{◌≡◌, ℕ, List, [], ◌∷◌}
use Rattle.std.proofs.Common.{refl}
use Rattle.time_text.specs.Bucket.{bucket_start}
use Rattle.row_cells.specs.declared.schemas.Field.{Field}
use Rattle.row_cells.specs.Each.{Each}
use Rattle.downsample_fold.specs.Direct.{down}
use Rattle.histogram_aggs.specs.Samples.{Sample, at_window}
use Rattle.histogram_aggs.specs.Alike.{Head, Keeps, Alike}
use Rattle.histogram_aggs.specs.Laws.{TwoWays, all_ones, all_others, AllApart, IndicesAgree, QueriedAlike}
use Rattle.histogram_aggs.specs.PickLaws.{alike-pick, filter-same}
use Rattle.histogram_aggs.specs.JoinLaws.{alike_append}
use Rattle.histogram_aggs.specs.DownLaws.{alike_down}
use Rattle.histogram_aggs.specs.AgreeLaws.{aggs_alike}

none-alike : (n : ℕ) (fields : List Field) (head : Head) (keeps : Keeps) → Alike n fields head keeps [] []
none-alike n fields head keeps = record { first = tt; second = tt; counts = λ c. refl; gauges = λ place c at kept. refl; rises = λ place key start c at kept. refl }

pub all-alike : (n : ℕ) (fields : List Field) (head : Head) (keeps : Keeps) (ws : List TwoWays) → AllApart n ws → Each (λ w. Alike n fields head keeps w.one w.other) ws → Alike n fields head keeps (all_ones ws) (all_others ws)
all-alike n fields head keeps [] apart each = none-alike n fields head keeps
all-alike n fields head keeps (w ∷ ws) apart each =
    alike_append n fields head keeps w.one w.other (all_ones ws) (all_others ws) (λ place kept. apart.0) each.0 (all-alike n fields head keeps ws apart.1 each.1)

pub queried_alike : QueriedAlike
queried_alike schema rows m head keeps start test c some cells each rising of_fold of_rows =
    both_eq (filter-same test (λ s. c s.row.key s.start (bucket_start m s.row.time)) (at_window start (down schema rows m)) of_fold)
    (filter-same test (λ s. c s.row.key s.start (bucket_start m s.row.time)) (at_window start rows) of_rows)
    (alike-pick m schema.fields head keeps (at_window start (down schema rows m)) (at_window start rows) c (alike_down schema rows m head keeps start some cells each rising))
  where
    both_eq : {a b d e : List Sample} → a ≡ b → d ≡ e → Alike m schema.fields head keeps b e → Alike m schema.fields head keeps a d
    both_eq p q alike = rw (p, q) alike

pub indices_agree : IndicesAgree
indices_agree asks n fields head keeps ws some apart each wise = aggs_alike asks fields n head keeps (all_ones ws) (all_others ws) some wise (all-alike n fields head keeps ws apart each)
