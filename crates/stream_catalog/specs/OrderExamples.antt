-- Which refusal is told where two hold: of folds and of changed templates, on the machine of `Examples`.
use Rattle.std.proofs.Common.{◌≡◌, Bool, pos, List, [], ◌∷◌, Some, None, true, false, refl, arith, codes}
use Rattle.std.specs.Prelude.{length, nat_le}
use Rattle.downsample_fold.specs.declared.intervals.IntervalError.TheVariants.{NotGreater, NotMultiple}
use Rattle.row_cells.specs.declared.schemas.FieldType.TheVariants.{Date, Keyword, Long}
use Rattle.row_cells.specs.declared.schemas.Role.TheVariants.{Time, Dimension, Gauge}
use Rattle.row_cells.specs.declared.schemas.Schema.{Schema}
use Rattle.time_text.specs.declared.intervals.Interval.{Interval}
use Rattle.stream_catalog.specs.Examples.{schema, mapping, seconds, second, old_facts, new_facts, template, two, task_of}
use Rattle.stream_catalog.specs.Indices.{downsample_refusal, folded_mapping}
use Rattle.stream_catalog.specs.Limits.{most_indices}
use Rattle.stream_catalog.specs.Names.{is_taken}
use Rattle.stream_catalog.specs.Plain.{PlainFacts, facts_of}
use Rattle.stream_catalog.specs.Streams.{template_refusal}
use Rattle.stream_catalog.specs.declared.answers.Refusal.TheVariants.{NameTaken, NotBlocked, Interval as BadInterval, Limit, ChangedField}
use Rattle.stream_catalog.specs.declared.answers.What.TheVariants.{Indices}
use Rattle.stream_catalog.specs.declared.facts.HeldIndex.{HeldIndex}

-- ---- folds

-- a fold under way is going to have a reserved name: that it is taken comes first, also where the source is open
pub fold_taken_first : downsample_refusal (facts_of (two false None (task_of (codes "a") (codes "downsample-x") 0 true ∷ []))) (codes "a") (codes "downsample-x") second
    ≡ Some (NameTaken (codes "downsample-x"))
fold_taken_first = refl

-- an index that was folded by two seconds, and others beside it
abbrev two_seconds : Interval
two_seconds = seconds 2 (omega arith) (omega arith)

abbrev folded : Bool → List HeldIndex → PlainFacts
folded blocked is = record (facts_of (two true None [])) {
  indices = record (old_facts blocked) { interval = Some two_seconds; mapping = folded_mapping true mapping } ∷ new_facts ∷ is;
}

-- an index that takes documents is told before an interval that isn't greater (a sound index with an interval takes none)
pub fold_open_first : downsample_refusal (folded false []) (codes "a") (codes "c") second ≡ Some NotBlocked
fold_open_first = refl

pub fold_lesser : downsample_refusal (folded true []) (codes "a") (codes "c") second ≡ Some (BadInterval (NotGreater (pos 2000) (pos 1000)))
fold_lesser = refl

pub fold_same : downsample_refusal (folded true []) (codes "a") (codes "c") two_seconds ≡ Some (BadInterval (NotGreater (pos 2000) (pos 2000)))
fold_same = refl

pub fold_between : downsample_refusal (folded true []) (codes "a") (codes "c") (seconds 3 (omega arith) (omega arith)) ≡ Some (BadInterval (NotMultiple (pos 2000) (pos 3000)))
fold_between = refl

pub fold_multiple : downsample_refusal (folded true []) (codes "a") (codes "c") (seconds 4 (omega arith) (omega arith)) ≡ None
fold_multiple = refl

-- an interval is told however many indices there are; where it is taken, that there are too many
pub fold_interval_first : (is : List HeldIndex) → is_taken (codes "c") (folded true is) ≡ false →
    downsample_refusal (folded true is) (codes "a") (codes "c") second ≡ Some (BadInterval (NotGreater (pos 2000) (pos 1000)))
fold_interval_first is free = rw free refl

pub fold_many : (is : List HeldIndex) → is_taken (codes "c") (folded true is) ≡ false → nat_le most_indices (length (folded true is).indices) ≡ true →
    downsample_refusal (folded true is) (codes "a") (codes "c") (seconds 4 (omega arith) (omega arith)) ≡ Some (Limit Indices)
fold_many is free full = rw (free, full) refl

-- ---- templates

-- another role alone is another mapping
abbrev gauged : Schema
gauged = record schema {
  fields = record { path = codes "@timestamp"; kind = Date; role = Time }
      ∷ record { path = codes "host"; kind = Keyword; role = Dimension }
      ∷ record { path = codes "req"; kind = Long; role = Gauge } ∷ [];
}

pub put_role : template_refusal (facts_of (two false None [])) (record template { schema = gauged }) ≡ Some (ChangedField (codes "req") (codes "a"))
put_role = refl

-- what other paths are mapped to is free: one more, and one less
abbrev widened : Schema
widened = record schema {
  fields = record { path = codes "@timestamp"; kind = Date; role = Time }
      ∷ record { path = codes "cpu"; kind = Long; role = Gauge }
      ∷ record { path = codes "host"; kind = Keyword; role = Dimension } ∷ [];
  routing = 2 ∷ [];
}

pub put_wider : template_refusal (facts_of (two false None [])) (record template { schema = widened }) ≡ None
put_wider = refl
