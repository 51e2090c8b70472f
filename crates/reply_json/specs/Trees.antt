-- Trees in the form in which they are built.
use Rattle.std.specs.Prelude.{ℕ, pos, List, [], ◌∷◌, codes}
use Rattle.reply_json.specs.declared.out.Member.{Member, roll-Member}
use Rattle.reply_json.specs.declared.out.Out.{Out, Num, Word, Object}

-- one member, of this name and value
abbrev pub member : List ℕ → Out → Member
member name value = roll-Member (record { name = name; value = value })

-- {"error":{"type":kind,"reason":reason},"status":status}
abbrev pub error_tree : ℕ → List ℕ → List ℕ → Out
error_tree status kind reason =
    Object (member (codes "error") (Object (member (codes "type") (Word kind) ∷ member (codes "reason") (Word reason) ∷ []))
    ∷ member (codes "status") (Num (pos status)) ∷ [])
