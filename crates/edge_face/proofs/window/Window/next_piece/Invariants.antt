use Rattle.std.proofs.Common.{◌≡◌, ◌≤◌, ◌-◌, ◌⊎◌, length, true}
use Rattle.edge_face.specs.Lines.{HasNoNewline}
use Rattle.edge_face.specs.Waiting.{KnowsEnd, Grew}
use Rattle.edge_face.proofs.window.Window.next_piece.Given as goal

-- nothing was lost, and the count did not fall
abbrev pub invariant-loop-at : goal.invariant-loop-at
invariant-loop-at g l = record {
  grew : Grew l.fn.self.bytes l.self.bytes (g.S.Source.left l.fn.source) (g.S.Source.left l.source);
  knows : KnowsEnd l.self.ended (g.S.Source.left l.source);
  asks_no_more : l.fn.self.ended ≡ true → (l.self ≡ l.fn.self) × (l.source ≡ l.fn.source);
  waits : HasNoNewline l.fn.self.bytes ⊎ ((l.self ≡ l.fn.self) × (l.source ≡ l.fn.source));
  still : l.self.ended ≡ l.fn.self.ended;
  capacity : l.self.capacity ≡ l.fn.self.capacity;
  counted : g.S.Source.faults l.fn.source ≤ g.S.Source.faults l.source;
  beside : g.S.Source.beside l.source ≡ g.S.Source.beside l.fn.source;
}

abbrev pub decreases-loop-at : goal.decreases-loop-at
decreases-loop-at g l = l.self.capacity - length l.self.bytes
