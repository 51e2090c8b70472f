-- The tree that the text of a reply is read as.
use Rattle.std.specs.Prelude.{◌≡◌, ◌≤◌, ℕ, suc, max, ◌^◌, ℤ, pos, negsuc, Bool, true, ◌&&◌, nat_lt, List, [], ◌∷◌, Some, IsTrue}
use Rattle.std.specs.List.{list_all}
use Rattle.std.specs.Str.{is_utf8}
use Rattle.serde_json.specs.Data.{Num, unsigned, negative, Data, null, boolean, number, string, array, object, Items, no_items, item, Members, no_members, put}
use Rattle.json_walk.specs.Tree.{tree_of}
use Rattle.reply_json.specs.Reply.{text}
use Rattle.reply_json.specs.declared.out.Member.{Member-F}
use Rattle.reply_json.specs.declared.out.Out.{Out, Out-F, fold-Out}

-- ---- the replies that are read back

-- a whole number of 64 bits, with a sign or without
abbrev pub is_small : ℤ → Bool
is_small (pos n) = nat_lt n (2 ^ 64)
is_small (negsuc n) = nat_lt n (2 ^ 63)

abbrev pub all_true : List Bool → Bool
all_true bs = list_all (λ b. b) bs

-- numbers have 64 bits, and texts are UTF-8, as all that are in memory
abbrev pub readable_step : Out-F Bool Bool → Bool
readable_step Out-F.Null = true
readable_step (Out-F.Flag b) = true
readable_step (Out-F.Num z) = is_small z
readable_step (Out-F.Word w) = is_utf8 w
readable_step (Out-F.List elements) = all_true elements
readable_step (Out-F.Object members) = all_true members

abbrev pub readable_member : Member-F Bool Bool → Bool
readable_member m = is_utf8 m.name && m.value

abbrev pub is_readable : Out → Bool
is_readable = fold-Out Bool Bool readable_step readable_member

-- ---- how deep lists and objects nest

abbrev pub greatest : List ℕ → ℕ
greatest [] = 0
greatest (n ∷ ns) = max n (greatest ns)

abbrev pub depth_step : Out-F ℕ ℕ → ℕ
depth_step Out-F.Null = 0
depth_step (Out-F.Flag b) = 0
depth_step (Out-F.Num z) = 0
depth_step (Out-F.Word w) = 0
depth_step (Out-F.List elements) = suc (greatest elements)
depth_step (Out-F.Object members) = suc (greatest members)

abbrev pub depth_member : Member-F ℕ ℕ → ℕ
depth_member m = m.value

abbrev pub depth : Out → ℕ
depth = fold-Out ℕ ℕ depth_step depth_member

-- ---- what is read

abbrev pub number_in : ℤ → Num
number_in (pos n) = unsigned n
number_in (negsuc n) = negative (negsuc n)

abbrev pub items_in : List Data → Items
items_in [] = no_items
items_in (d ∷ ds) = item d (items_in ds)

-- members go in one after another, each at its name
abbrev pub members_onto : List (List ℕ × Data) → Members → Members
members_onto [] found = found
members_onto (m ∷ ms) found = members_onto ms (put m.0 m.1 found)

abbrev pub read_step : Out-F Data (List ℕ × Data) → Data
read_step Out-F.Null = null
read_step (Out-F.Flag b) = boolean b
read_step (Out-F.Num z) = number (number_in z)
read_step (Out-F.Word w) = string w
read_step (Out-F.List elements) = array (items_in elements)
read_step (Out-F.Object members) = object (members_onto members no_members)

abbrev pub read_member : Member-F Data (List ℕ × Data) → List ℕ × Data
read_member m = (m.name, m.value)

-- the tree that a reply is: its members at their names, in whatever order they are printed
abbrev pub read_as : Out → Data
read_as = fold-Out Data (List ℕ × Data) read_step read_member

-- ---- the laws

-- the text of a reply is read as its tree, where lists and objects nest within the reader's 127 levels
abbrev pub PrintedReadsBack : Type 0
PrintedReadsBack = (o : Out) → IsTrue (is_readable o) → depth o ≤ 127 → tree_of (text o) ≡ Some (read_as o)

-- two replies of one text are one, also in the order of their members
abbrev pub OneReply : Type 0
OneReply = (o p : Out) → IsTrue (is_readable o) → IsTrue (is_readable p) → text o ≡ text p → o ≡ p
