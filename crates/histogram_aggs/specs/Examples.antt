-- The definitions on small lists of rows, worked out by hand.
use Rattle.std.proofs.Common.{◌≡◌, ℕ, pos, List, [], ◌∷◌, Some, None, true, false, refl, arith, codes}
use Rattle.std.specs.declared.result.Result.TheVariants.{Ok}
use Rattle.row_cells.specs.declared.scalars.Scalar.TheVariants.{Whole, Word}
use Rattle.row_cells.specs.declared.rows.Cell.TheVariants.{Absent, One}
use Rattle.row_cells.specs.declared.rows.Row.{Row}
use Rattle.row_cells.specs.declared.schemas.FieldType.TheVariants.{Keyword, Long, Date}
use Rattle.row_cells.specs.declared.schemas.Role.TheVariants.{Dimension, Counter, Gauge as GaugeRole, Time}
use Rattle.row_cells.specs.declared.schemas.Field.{Field}
use Rattle.row_cells.specs.declared.schemas.Schema.{Schema}
use Rattle.reply_json.specs.declared.out.Member.{Member}
use Rattle.reply_json.specs.declared.out.Out.{Out, Null, Num, Word as Text, List as Array, Object}
use Rattle.reply_json.specs.Trees.{member}
use Rattle.time_text.specs.declared.intervals.Interval.{Interval}
use Rattle.time_text.specs.declared.units.Unit.TheVariants.{Ms, M}
use Rattle.time_text.specs.Bucket.{bucket_start}
use Rattle.time_text.specs.Printed.{instant_text}
use Rattle.downsample_fold.specs.Direct.{down}
use Rattle.histogram_aggs.specs.declared.aggs.AggKind.{AggKind}
use Rattle.histogram_aggs.specs.declared.aggs.AggKind.TheVariants.{Min, Max, Sum, Increase, Terms, DateHistogram}
use Rattle.histogram_aggs.specs.Asks.{Asks, no_asks, ask}
use Rattle.histogram_aggs.specs.Samples.{Sample, at_window}
use Rattle.histogram_aggs.specs.Answers.{agg_all}

abbrev fields : List Field
fields =
    record { path = codes "@timestamp"; kind = Date; role = Time }
    ∷ record { path = codes "cpu"; kind = Long; role = GaugeRole }
    ∷ record { path = codes "host"; kind = Keyword; role = Dimension }
    ∷ record { path = codes "req"; kind = Long; role = Counter } ∷ []

abbrev schema : Schema
schema = record { fields = fields; routing = 2 ∷ []; folded = false; rises = true }

-- the key of a host of one letter
abbrev key_of : ℕ → List ℕ
key_of letter = 0 ∷ 4 ∷ 104 ∷ 111 ∷ 115 ∷ 116 ∷ 1 ∷ 0 ∷ 1 ∷ letter ∷ []

abbrev row : ℕ → ℕ → ℕ → ℕ → Row
row letter time cpu req = record { key = key_of letter; time = pos time; count = 1; cells = Absent ∷ One (Whole (pos cpu)) ∷ One (Word (letter ∷ [])) ∷ One (Whole (pos req)) ∷ [] }

-- host a at 0, 10 and 60 seconds, host b at 90 seconds
abbrev rows : List Row
rows = row 97 0 10 100 ∷ row 97 10_000 30 150 ∷ row 97 60_000 2 20 ∷ row 98 90_000 5 7 ∷ []

abbrev samples : List Sample
samples = at_window (pos 0) rows

abbrev one : List ℕ → AggKind → ℕ → Asks
one name kind place = ask name kind (Some place) no_asks no_asks

abbrev value : List ℕ → ℕ → Member
value name v = member name (Object (member (codes "value") (Num (pos v)) ∷ []))

abbrev number : List ℕ → ℕ → Out
number name v = Object (value name v ∷ [])

-- ---- metrics

sums : agg_all (one (codes "s") Sum 1) fields samples ≡ Ok (number (codes "s") 47)
sums = refl

least : agg_all (one (codes "s") Min 1) fields samples ≡ Ok (number (codes "s") 2)
least = refl

-- the last values of the counter, as they are
greatest : agg_all (one (codes "s") Max 3) fields samples ≡ Ok (number (codes "s") 150)
greatest = refl

-- from 100 to 150, then after a reset to 20; the other host has one value
rises : agg_all (one (codes "s") Increase 3) fields samples ≡ Ok (number (codes "s") 70)
rises = refl

unmapped : agg_all (ask (codes "s") Min None no_asks no_asks) fields samples ≡ Ok (Object (member (codes "s") (Object (member (codes "value") Null ∷ [])) ∷ []))
unmapped = refl

first_time : agg_all (one (codes "s") Min 0) fields samples ≡ Ok (Object (member (codes "s") (Object (member (codes "value") (Num (pos 0)) ∷ member (codes "value_as_string") (Text (instant_text (pos 0))) ∷ [])) ∷ []))
first_time = refl

-- ---- folded by the minute the answers stay

folded_sums : agg_all (one (codes "s") Sum 1) fields (at_window (pos 0) (down schema rows 60_000)) ≡ Ok (number (codes "s") 47)
unfolding bucket_start down
folded_sums = refl

folded_rises : agg_all (one (codes "s") Increase 3) fields (at_window (pos 0) (down schema rows 60_000)) ≡ Ok (number (codes "s") 70)
unfolding bucket_start down
folded_rises = refl

-- ---- buckets of values

abbrev hosts : List Sample
hosts = at_window (pos 0) (row 97 0 1 1 ∷ row 98 0 1 1 ∷ row 99 0 1 1 ∷ row 100 0 1 1 ∷ [])

abbrev terms : ℕ → List Out → Out
terms others buckets = Object (member (codes "t") (Object (member (codes "doc_count_error_upper_bound") (Num (pos 0)) ∷ member (codes "sum_other_doc_count") (Num (pos others)) ∷ member (codes "buckets") (Array buckets) ∷ [])) ∷ [])

abbrev host : ℕ → ℕ → List Member → Out
host letter count below = Object (member (codes "key") (Text (letter ∷ [])) ∷ member (codes "doc_count") (Num (pos count)) ∷ below)

-- the first of four hosts with a document each: the other three are told
cut : agg_all (one (codes "t") (Terms 1 None) 2) fields hosts ≡ Ok (terms 3 (host 97 1 [] ∷ []))
cut = refl

by_falling_keys : agg_all (ask (codes "t") (Terms 10 (Some false)) (Some 2) (one (codes "i") Increase 3) no_asks) fields samples
    ≡ Ok (terms 0 (host 98 1 (value (codes "i") 0 ∷ []) ∷ host 97 3 (value (codes "i") 70 ∷ []) ∷ []))
by_falling_keys = refl

-- ---- buckets of time

abbrev millisecond : Interval
millisecond = record { number = 1; unit = Ms; in_range = (omega arith, omega arith) }

abbrev minute : Interval
minute = record { number = 1; unit = M; in_range = (omega arith, omega arith) }

abbrev histogram : List Out → Out
histogram buckets = Object (member (codes "h") (Object (member (codes "buckets") (Array buckets) ∷ [])) ∷ [])

abbrev bucket : ℕ → ℕ → List Member → Out
bucket start count below = Object (member (codes "key_as_string") (Text (instant_text (pos start))) ∷ member (codes "key") (Num (pos start)) ∷ member (codes "doc_count") (Num (pos count)) ∷ below)

-- what a counter gains from one bucket to the next is in neither
minutes : agg_all (ask (codes "h") (DateHistogram minute 0) (Some 0) (one (codes "i") Increase 3) no_asks) fields samples
    ≡ Ok (histogram (bucket 0 2 (value (codes "i") 50 ∷ []) ∷ bucket 60_000 2 (value (codes "i") 0 ∷ []) ∷ []))
unfolding bucket_start
minutes = refl

-- each bucket from the first to the last
gaps : agg_all (one (codes "h") (DateHistogram millisecond 0) 0) fields (at_window (pos 0) (row 97 0 1 1 ∷ row 97 2 1 1 ∷ []))
    ≡ Ok (histogram (bucket 0 1 [] ∷ bucket 1 0 [] ∷ bucket 2 1 [] ∷ []))
unfolding bucket_start
gaps = refl

-- or those with documents enough
full : agg_all (one (codes "h") (DateHistogram minute 2) 0) fields (at_window (pos 0) (row 97 0 1 1 ∷ row 97 60_000 1 1 ∷ row 98 60_001 1 1 ∷ []))
    ≡ Ok (histogram (bucket 60_000 2 [] ∷ []))
unfolding bucket_start
full = refl
