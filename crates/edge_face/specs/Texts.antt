-- Texts, which stand in memory of their own or in the program.
use Rattle.std.specs.Prelude.{ℕ, List, string_bytes}
use Rattle.edge_face.specs.declared.text.Place.{Place}
use Rattle.edge_face.specs.declared.text.Place.TheVariants.{Owned, Fixed}

-- the bytes of a text
abbrev pub text_at : Place → List ℕ
text_at (Owned text) = string_bytes text
text_at (Fixed text) = text.now
