-- Bodies of lifecycles, worked out.
use Rattle.std.proofs.Common.{◌≡◌, ℕ, List, [], ◌∷◌, Option, Some, None, true, false, refl, codes}
use Rattle.std.specs.Prelude.{map, length, nat_le}
use Rattle.std.specs.Option.{option_map}
use Rattle.serde_json.specs.Data.{Data, null, boolean, number, string, array, object, unsigned, no_items, item, no_members, member}
use Rattle.time_text.specs.Interval.{interval_in, ms_of}
use Rattle.time_text.specs.Interval as time
use Rattle.time_text.specs.Unit.{unit_of}
use Rattle.lifecycle_swap.specs.Bodies.{rounds_of, lifecycle_of}
use Rattle.lifecycle_swap.specs.Lifecycles.{follow}
use Rattle.lifecycle_swap.specs.declared.lifecycles.Lifecycle.{Lifecycle}
use Rattle.lifecycle_swap.specs.declared.lifecycles.Round.{Round}

-- a lifecycle in milliseconds: its retention, and of each round when it comes and by what it folds
abbrev in_ms : Lifecycle → Option ℕ × List (ℕ × ℕ)
in_ms life = (option_map ms_of life.retention, map {B = ℕ × ℕ} (λ r. (ms_of r.after, ms_of r.by)) life.rounds)

abbrev read : Data → Option (Option ℕ × List (ℕ × ℕ))
read body = option_map in_ms (lifecycle_of body)

abbrev round : List ℕ → List ℕ → Data
round after by = object (member (codes "after") (string after) (member (codes "fixed_interval") (string by) no_members))

abbrev with_rounds : Data → Data
with_rounds rounds = object (member (codes "downsampling") rounds no_members)

abbrev with_retention : Data → Data
with_retention retention = object (member (codes "data_retention") retention no_members)

abbrev two_rounds : Data → Data → Data
two_rounds first next = with_rounds (array (item first (item next no_items)))

-- ---- what a body gives

-- a retention and two rounds
pub life_whole : read (object (
    member (codes "data_retention") (string (codes "10d"))
    (member (codes "downsampling") (array (item (round (codes "1d") (codes "30s")) (item (round (codes "48h") (codes "1m")) no_items))) no_members)))
    ≡ Some (Some 864_000_000, (86_400_000, 30_000) ∷ (172_800_000, 60_000) ∷ [])
unfolding lifecycle_of interval_in time.interval_of unit_of
life_whole = refl

-- each of both may be absent, and rounds may be none
pub life_retained : read (with_retention (string (codes "500ms"))) ≡ Some (Some 500, [])
unfolding lifecycle_of interval_in time.interval_of unit_of
life_retained = refl

pub life_folded : read (with_rounds (array (item (round (codes "2h") (codes "1h")) no_items))) ≡ Some (None, (7_200_000, 3_600_000) ∷ [])
unfolding lifecycle_of interval_in time.interval_of unit_of
life_folded = refl

pub life_no_rounds : lifecycle_of (with_rounds (array no_items)) ≡ Some (record { retention = None; rounds = [] })
unfolding lifecycle_of
life_no_rounds = refl

pub life_nothing : lifecycle_of (object no_members) ≡ Some (record { retention = None; rounds = [] })
unfolding lifecycle_of
life_nothing = refl

-- ---- what gives none

-- null stands for neither
pub life_null_rounds : lifecycle_of (with_rounds null) ≡ None
unfolding lifecycle_of
life_null_rounds = refl

pub life_null_retention : lifecycle_of (with_retention null) ≡ None
unfolding lifecycle_of
life_null_retention = refl

-- a member that nothing names, and what is no object
pub life_unknown : lifecycle_of (object (member (codes "data_retention") (string (codes "1d")) (member (codes "enabled") (boolean true) no_members))) ≡ None
unfolding lifecycle_of
life_unknown = refl

pub life_listed : lifecycle_of (array no_items) ≡ None
unfolding lifecycle_of
life_listed = refl

-- a retention that is no text, or none of an interval
pub life_number : lifecycle_of (with_retention (number (unsigned 500))) ≡ None
unfolding lifecycle_of
life_number = refl

pub life_weeks : lifecycle_of (with_retention (string (codes "1w"))) ≡ None
unfolding lifecycle_of interval_in time.interval_of unit_of
life_weeks = refl

-- a round has both members, and no other
pub life_without_interval : lifecycle_of (with_rounds (array (item (object (member (codes "after") (string (codes "1d")) no_members)) no_items))) ≡ None
unfolding lifecycle_of
life_without_interval = refl

pub life_with_more : lifecycle_of (with_rounds (array (item (object (
    member (codes "after") (string (codes "1d")) (member (codes "fixed_interval") (string (codes "1h")) (member (codes "force") (boolean true) no_members)))) no_items))) ≡ None
unfolding lifecycle_of
life_with_more = refl

-- a round comes later than the one before: not at once with it, and not sooner
pub life_at_once : lifecycle_of (two_rounds (round (codes "1d") (codes "1h")) (round (codes "24h") (codes "2h"))) ≡ None
unfolding lifecycle_of interval_in time.interval_of unit_of
life_at_once = refl

pub life_sooner : lifecycle_of (two_rounds (round (codes "2d") (codes "1h")) (round (codes "1d") (codes "2h"))) ≡ None
unfolding lifecycle_of interval_in time.interval_of unit_of
life_sooner = refl

-- its interval is a multiple of the one before, and greater
pub life_same_interval : lifecycle_of (two_rounds (round (codes "1d") (codes "1h")) (round (codes "2d") (codes "60m"))) ≡ None
unfolding lifecycle_of interval_in time.interval_of unit_of
life_same_interval = refl

pub life_no_multiple : lifecycle_of (two_rounds (round (codes "1d") (codes "1h")) (round (codes "2d") (codes "90m"))) ≡ None
unfolding lifecycle_of interval_in time.interval_of unit_of
life_no_multiple = refl

-- ten rounds are taken, where each may follow the one before, and more are not
pub life_ten : (rounds : Data) (rs : List Round) → rounds_of rounds ≡ Some rs → nat_le (length rs) 10 ≡ true → follow rs ≡ true → lifecycle_of (with_rounds rounds) ≡ Some (record { retention = None; rounds = rs })
unfolding lifecycle_of
life_ten rounds rs is few following = rw (is, few, following) refl

pub life_eleven : (rounds : Data) (rs : List Round) → rounds_of rounds ≡ Some rs → nat_le (length rs) 10 ≡ false → lifecycle_of (with_rounds rounds) ≡ None
unfolding lifecycle_of
life_eleven rounds rs is many = rw (is, many) refl
