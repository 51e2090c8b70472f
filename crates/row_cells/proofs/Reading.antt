-- What readers of a key's parts answer.
use Rattle.std.specs.Prelude.{◌≡◌, ℕ, Bool, true, false, cond, Option, Some, None, List}
use Rattle.std.specs.Str.{IsUtf8, is_utf8}
use Rattle.std.proofs.Common.{refl, ap, ◌∙◌}
use Rattle.std.proofs.lemmas.Str.{is_utf8-from_IsUtf8, IsUtf8-from_is_utf8}
use Rattle.row_cells.specs.declared.scalars.Scalar.{Scalar}
use Rattle.row_cells.specs.declared.scalars.Scalar.TheVariants.{Word}
use Rattle.time_text.specs.Shape.{◌>>=◌}
use Rattle.row_cells.specs.Dimensions.{Dimension}
use Rattle.row_cells.specs.Heads.{utf8_word, word_at, value_at, dimension_at, dimension_with}
use Rattle.row_cells.specs.Texts.{text_at}

by_text : (bytes text rest : List ℕ) → text_at bytes ≡ Some (text, rest) → word_at bytes ≡ utf8_word (text, rest)
unfolding word_at
by_text bytes text rest is = ap (λ read. read >>= utf8_word) is

pub word_read : (bytes text rest : List ℕ) → text_at bytes ≡ Some (text, rest) → IsUtf8 text → word_at bytes ≡ Some (Word text, rest)
word_read bytes text rest is utf8 = by_text bytes text rest is ∙ ap (λ b. cond {A = Option (Scalar × List ℕ)} b (Some (Word text, rest)) None) (is_utf8-from_IsUtf8 text utf8)

pub word_unread : (bytes text rest : List ℕ) → text_at bytes ≡ Some (text, rest) → (IsUtf8 text → ⊥) → word_at bytes ≡ None
word_unread bytes text rest is none = by_text bytes text rest is ∙ go (is_utf8 text) refl
  where
    go : (b : Bool) → is_utf8 text ≡ b → cond {A = Option (Scalar × List ℕ)} b (Some (Word text, rest)) None ≡ None
    go true e = absurd (none (IsUtf8-from_is_utf8 text e))
    go false e = refl

pub some_is : {A : Type 0} {x y : A} → Some x ≡ Some y → x ≡ y
some_is e = cc

abbrev pub dimension_from : List ℕ → Scalar → Dimension
dimension_from path value = record { path = path; value = value }

-- an entry is read part by part
pub entry_is : (bytes path tail rest : List ℕ) (v : Scalar) → text_at bytes ≡ Some (path, tail) → value_at tail ≡ Some (v, rest) → dimension_at bytes ≡ Some (dimension_from path v, rest)
unfolding dimension_at
entry_is bytes path tail rest v text value = ap (λ read. read >>= dimension_with) text ∙ ap (λ read. read >>= (λ first. Some (dimension_from path first.0, first.1))) value
