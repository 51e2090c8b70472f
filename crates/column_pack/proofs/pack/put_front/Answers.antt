use Rattle.std.proofs.Common.{◌≡◌, ap, ◌∙◌, sym, refl, arith}
use Rattle.column_pack.specs.Block.{kind_code}
use Rattle.column_pack.proofs.Bytes.{front-written}
use Rattle.column_pack.proofs.pack.put_front.Goals as goal
use Rattle.column_pack.proofs.pack.put_front.Goals.{in-Plain, in-Rising, in-Falling}

code-is : (c : goal.After-way_told-3-1) → c.match-header.bytes ≡ kind_code c.args.header.now.kind
code-is c = elim c.match-header.branch [
  | in-Plain w ↦ w.bytes-is ∙ ap kind_code (sym w.in-Plain.is)
  | in-Rising w ↦ w.bytes-is ∙ ap kind_code (sym w.in-Rising.is)
  | in-Falling w ↦ w.bytes-is ∙ ap kind_code (sym w.in-Falling.is)
]

pub returns : goal.returns
returns c =
    let h = c.args.header.now in
    front-written c.args.bytes.now c.put_word.new.bytes c.put_word-2.new.bytes c.put_word-3.new.bytes c.to_be_bytes.result c.to_be_bytes-2.result c.to_be_bytes-3.result c.args.count c.match-header.bytes h.width
    (omega arith) (omega arith) c.put_word.ensures c.put_word-2.ensures c.put_word-3.ensures
    ∙ rw (code-is c, c.to_be_bytes.ensures, c.to_be_bytes-2.ensures, c.to_be_bytes-3.ensures) refl
