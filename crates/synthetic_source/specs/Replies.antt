-- A document as a reply tree.
use Rattle.std.specs.Prelude.{ℕ, ℤ, pos, negsuc, ◌^◌, nat_lt, if◌then◌else◌, List, [], ◌∷◌}
use Rattle.reply_json.specs.declared.out.Member.{Member, Member-F, fold-Member}
use Rattle.reply_json.specs.declared.out.Out.{Out, Out-F, fold-Out, Null, Flag, Num, Word, List as list, Object}
use Rattle.reply_json.specs.Reading.{members_onto}
use Rattle.reply_json.specs.Trees as tree
use Rattle.serde_json.specs.View.{items_of}
use Rattle.serde_json.specs.Data.{Num as Numeral, unsigned, negative, float, Data, null, boolean, number, string, array, object, Items, no_items, item, Members, no_members, member}

-- replies have whole numbers alone
abbrev pub out_of_number : Numeral → Out
out_of_number (unsigned n) = Num (pos n)
out_of_number (negative v) = Num v
out_of_number (float x) = Null

abbrev mutual
  pub out_of : Data → Out
  out_of null = Null
  out_of (boolean b) = Flag b
  out_of (number n) = out_of_number n
  out_of (string s) = Word s
  out_of (array ds) = list (out_items ds)
  out_of (object ms) = Object (out_members ms)

  pub out_items : Items → List Out
  out_items no_items = []
  out_items (item d ds) = out_of d ∷ out_items ds

  pub out_members : Members → List Member
  out_members no_members = []
  out_members (member k d ms) = tree.member k (out_of d) ∷ out_members ms

-- a whole number of 64 bits, with a sign or without; another has no value
abbrev pub number_data : ℤ → Data
number_data (pos n) = if nat_lt n (2 ^ 64) then number (unsigned n) else null
number_data (negsuc n) = if nat_lt n (2 ^ 63) then number (negative (negsuc n)) else null

abbrev pub data_step : Out-F Data (List ℕ × Data) → Data
data_step Out-F.Null = null
data_step (Out-F.Flag b) = boolean b
data_step (Out-F.Num z) = number_data z
data_step (Out-F.Word w) = string w
data_step (Out-F.List ds) = array (items_of ds)
data_step (Out-F.Object ms) = object (members_onto ms no_members)

abbrev pub member_step : Member-F Data (List ℕ × Data) → List ℕ × Data
member_step m = (m.name, m.value)

-- the value that a reply tree is, whose members are put in one after another
abbrev pub data_of : Out → Data
data_of = fold-Out Data (List ℕ × Data) data_step member_step

abbrev pub member_data : Member → List ℕ × Data
member_data = fold-Member Data (List ℕ × Data) data_step member_step
