-- The line that a reply is written as.
use Rattle.std.specs.Prelude.{ℕ, List, [], ◌∷◌, ◌++◌}
use Rattle.std.specs.Fmt.{decimal}
use Rattle.reply_json.specs.Reply.{text}
use Rattle.tsds_cli.specs.declared.reply.Reply.{Reply}

-- a status and a tree, in one line
unfoldable pub reply_line : Reply → List ℕ
reply_line reply = decimal reply.status ++ (32 ∷ (text reply.tree ++ 10 ∷ []))
