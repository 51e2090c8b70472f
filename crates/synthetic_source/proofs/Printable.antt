-- Documents whose printed text reads back, and the names of members.
use Rattle.std.specs.Prelude.{◌<◌, ◌^◌, ℕ, pos, negsuc, List, [], ◌∷◌, IsUtf8}
use Rattle.serde_json.specs.Data.{Num, unsigned, negative, float, Data, null, boolean, number, string, array, object, Items, no_items, item, Members, no_members, member}
use Rattle.synthetic_source.specs.Places.{Rise}

-- whole numbers of 64 bits
abbrev pub IsPrintableNumber : Num → Type 0
IsPrintableNumber (unsigned n) = n < 2 ^ 64
IsPrintableNumber (negative (pos n)) = ⊥
IsPrintableNumber (negative (negsuc n)) = n < 2 ^ 63
IsPrintableNumber (float x) = ⊥

abbrev pub names : Members → List (List ℕ)
names no_members = []
names (member k d ms) = k ∷ names ms

-- texts are UTF-8, numbers whole and of 64 bits, and names ascend
abbrev mutual
  pub IsPrintable : Data → Type 0
  IsPrintable null = Unit {0}
  IsPrintable (boolean b) = Unit {0}
  IsPrintable (number n) = IsPrintableNumber n
  IsPrintable (string s) = IsUtf8 s
  IsPrintable (array ds) = ArePrintable ds
  IsPrintable (object ms) = Rise (names ms) × MembersPrintable ms

  pub ArePrintable : Items → Type 0
  ArePrintable no_items = Unit {0}
  ArePrintable (item d ds) = IsPrintable d × ArePrintable ds

  pub MembersPrintable : Members → Type 0
  MembersPrintable no_members = Unit {0}
  MembersPrintable (member k d ms) = IsUtf8 k × IsPrintable d × MembersPrintable ms
