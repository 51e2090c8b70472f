-- Lines and items, step by step.
use Rattle.std.proofs.Common.{◌≡◌, ◌∙◌, ℕ, suc, ◌+◌, ◌<◌, take, drop, add-one, append-nil, Bool, true, false, cond, List, [], ◌∷◌, ◌++◌, length, map, refl, ap, sym, subst, arith, ◌==◌, append_assoc, Option, None, Some, Ok, Err}
use Rattle.std.specs.Prelude.{Result, if◌then◌else◌}
use Rattle.std.proofs.lemmas.Bool.Decides.{nat_tests}
use Rattle.std.proofs.Math.Seq.{take-length, drop-length}
use Rattle.edge_face.specs.Lines.{piece_of, after_piece, pieces_of, with_first, IsNewlineAt, HasNoNewline}
use Rattle.edge_face.specs.LinesLaws.{piece-at, after-at, piece-none, after-none}
use Rattle.bulk_json.specs.Lines.{line_in, lines_of, is_blank}
use Rattle.bulk_json.specs.Actions.{takes_source, asked_of}
use Rattle.bulk_json.specs.Items.{onto, item, items_from, items_by, with_source, ahead_of}
use Rattle.bulk_json.specs.Sound.{IsItem, AreItems}
use Rattle.bulk_json.specs.declared.action.Asked.{Asked}
use Rattle.bulk_json.specs.declared.items.Item.{Item}
use Rattle.bulk_json.specs.declared.errors.BulkError.{BulkError}
use Rattle.bulk_json.specs.declared.errors.BulkError.TheVariants.{BadAction, MissingSource}

pieces-first : (b : ℕ) (bytes : List ℕ) → pieces_of (b ∷ bytes) ≡ piece_of (b ∷ bytes) ∷ pieces_of (after_piece (b ∷ bytes))
pieces-first b [] = go (b == 10)
  where
    go : (hit : Bool) → cond hit ((b ∷ []) ∷ []) ((b ∷ []) ∷ []) ≡ cond hit (b ∷ []) (b ∷ []) ∷ pieces_of (cond hit [] [])
    go true = refl
    go false = refl
pieces-first b (c ∷ bytes) = go (b == 10) (ap (with_first b) (pieces-first c bytes))
  where
    go : (hit : Bool) → with_first b (pieces_of (c ∷ bytes)) ≡ (b ∷ piece_of (c ∷ bytes)) ∷ pieces_of (after_piece (c ∷ bytes))
        → cond hit ((b ∷ []) ∷ pieces_of (c ∷ bytes)) (with_first b (pieces_of (c ∷ bytes))) ≡ cond hit (b ∷ []) (b ∷ piece_of (c ∷ bytes)) ∷ pieces_of (cond hit (c ∷ bytes) (after_piece (c ∷ bytes)))
    go true h = refl
    go false h = h

-- the first line and the others
pub lines-first : (bytes line rest : List ℕ) → 0 < length bytes → line ≡ line_in (piece_of bytes) → rest ≡ after_piece bytes → lines_of bytes ≡ line ∷ lines_of rest
lines-first [] line rest some is after = absurd (omega (arith, some))
lines-first (b ∷ bytes) line rest some is after =
    ap (map line_in) (pieces-first b bytes)
    ∙ sym (ap (λ l. l ∷ lines_of rest) is ∙ ap (λ r. line_in (piece_of (b ∷ bytes)) ∷ lines_of r) after)

-- what an action gives with the lines behind it
abbrev pub acted : Option (List ℕ) → ℕ → List (List ℕ) → Asked → Result (List Item) BulkError
acted path n lines asked = if takes_source asked.action then with_source path n asked lines else onto (item asked None ∷ []) (items_from path (n + 1) lines)

pub blank-line : (path : Option (List ℕ)) (n : ℕ) (line : List ℕ) (lines : List (List ℕ)) → is_blank line ≡ true → items_from path n (line ∷ lines) ≡ items_from path (n + 1) lines
blank-line path n line lines blank = ap (λ b. cond b (items_from path (n + 1) lines) (items_by n (asked_of path line) (acted path n lines))) blank

pub other-line : (path : Option (List ℕ)) (n : ℕ) (line : List ℕ) (lines : List (List ℕ)) (asked : Option Asked) → is_blank line ≡ false → asked ≡ asked_of path line
    → items_from path n (line ∷ lines) ≡ items_by n asked (acted path n lines)
other-line path n line lines asked some is =
    ap (λ b. cond b (items_from path (n + 1) lines) (items_by n (asked_of path line) (acted path n lines))) some
    ∙ sym (ap (λ a. items_by n a (acted path n lines)) is)

pub without-source : (path : Option (List ℕ)) (n : ℕ) (asked : Asked) (lines : List (List ℕ)) → takes_source asked.action ≡ false
    → acted path n lines asked ≡ onto (item asked None ∷ []) (items_from path (n + 1) lines)
without-source path n asked lines none = ap (λ b. cond b (with_source path n asked lines) (onto (item asked None ∷ []) (items_from path (n + 1) lines))) none

pub behind-source : (path : Option (List ℕ)) (n : ℕ) (asked : Asked) (lines : List (List ℕ)) → takes_source asked.action ≡ true
    → acted path n lines asked ≡ with_source path n asked lines
behind-source path n asked lines some = ap (λ b. cond b (with_source path n asked lines) (onto (item asked None ∷ []) (items_from path (n + 1) lines))) some

-- no item before others
onto-none : (later : Result (List Item) BulkError) → onto [] later ≡ later
onto-none (Ok others) = refl
onto-none (Err e) = refl

-- a blank line is passed
pub passed : (path : Option (List ℕ)) (n : ℕ) (bytes line rest : List ℕ) → 0 < length bytes → line ≡ line_in (piece_of bytes) → rest ≡ after_piece bytes → is_blank line ≡ true
    → onto [] (ahead_of path (n + 1) rest) ≡ ahead_of path n bytes
passed path n bytes line rest some is after blank =
    onto-none (ahead_of path (n + 1) rest) ∙ sym (ap (items_from path n) (lines-first bytes line rest some is after) ∙ blank-line path n line (lines_of rest) blank)

-- a line that is no action
pub no-action : (path : Option (List ℕ)) (n : ℕ) (bytes line rest : List ℕ) (asked : Option Asked) → 0 < length bytes → line ≡ line_in (piece_of bytes) → rest ≡ after_piece bytes → is_blank line ≡ false
    → asked ≡ asked_of path line → asked ≡ None → ahead_of path n bytes ≡ Err (BadAction n)
no-action path n bytes line rest asked some is after other action none =
    ap (items_from path n) (lines-first bytes line rest some is after) ∙ other-line path n line (lines_of rest) asked other action
    ∙ ap (λ a. items_by n a (acted path n (lines_of rest))) none

-- an action
an-action : (path : Option (List ℕ)) (n : ℕ) (bytes line rest : List ℕ) (found : Option Asked) (asked : Asked) → 0 < length bytes → line ≡ line_in (piece_of bytes) → rest ≡ after_piece bytes → is_blank line ≡ false
    → found ≡ asked_of path line → found ≡ Some asked → ahead_of path n bytes ≡ acted path n (lines_of rest) asked
an-action path n bytes line rest found asked some is after other action hit =
    ap (items_from path n) (lines-first bytes line rest some is after) ∙ other-line path n line (lines_of rest) found other action
    ∙ ap (λ a. items_by n a (acted path n (lines_of rest))) hit

-- an action without a source
pub taken-alone : (path : Option (List ℕ)) (n : ℕ) (bytes line rest : List ℕ) (found : Option Asked) (asked : Asked) → 0 < length bytes → line ≡ line_in (piece_of bytes) → rest ≡ after_piece bytes
    → is_blank line ≡ false → found ≡ asked_of path line → found ≡ Some asked → takes_source asked.action ≡ false
    → onto (item asked None ∷ []) (ahead_of path (n + 1) rest) ≡ ahead_of path n bytes
taken-alone path n bytes line rest found asked some is after other action hit none =
    sym (an-action path n bytes line rest found asked some is after other action hit ∙ without-source path n asked (lines_of rest) none)

-- an action whose source is missing
pub lacks-source : (path : Option (List ℕ)) (n : ℕ) (bytes line rest : List ℕ) (found : Option Asked) (asked : Asked) → 0 < length bytes → line ≡ line_in (piece_of bytes) → rest ≡ after_piece bytes
    → is_blank line ≡ false → found ≡ asked_of path line → found ≡ Some asked → takes_source asked.action ≡ true → length rest ≡ 0 → ahead_of path n bytes ≡ Err (MissingSource n)
lacks-source path n bytes line rest found asked some is after other action hit takes none =
    an-action path n bytes line rest found asked some is after other action hit ∙ behind-source path n asked (lines_of rest) takes
    ∙ ap (λ l. with_source path n asked (lines_of l)) (no_bytes rest none)
  where
    no_bytes : (bytes : List ℕ) → length bytes ≡ 0 → bytes ≡ []
    no_bytes [] h = refl
    no_bytes (b ∷ bytes) h = absurd (omega (arith, h))

-- an action and its source
pub taken-with-source : (path : Option (List ℕ)) (n : ℕ) (bytes line rest source later : List ℕ) (found : Option Asked) (asked : Asked)
    → 0 < length bytes → line ≡ line_in (piece_of bytes) → rest ≡ after_piece bytes → is_blank line ≡ false → found ≡ asked_of path line → found ≡ Some asked → takes_source asked.action ≡ true
    → 0 < length rest → source ≡ line_in (piece_of rest) → later ≡ after_piece rest
    → onto (item asked (Some source) ∷ []) (ahead_of path (n + 1 + 1) later) ≡ ahead_of path n bytes
taken-with-source path n bytes line rest source later found asked some is after other action hit takes more second behind =
    sym (an-action path n bytes line rest found asked some is after other action hit ∙ behind-source path n asked (lines_of rest) takes
    ∙ ap (with_source path n asked) (lines-first rest source later more second behind))

-- more items before others
onto-onto : (front : List Item) (next : Item) (later : Result (List Item) BulkError) → onto front (onto (next ∷ []) later) ≡ onto (front ++ next ∷ []) later
onto-onto front next (Ok others) = ap Ok (sym (append_assoc front (next ∷ []) others))
onto-onto front next (Err e) = refl

pub one-more : (items now : List Item) (i kept : Item) (lines ahead all : Result (List Item) BulkError) → kept ≡ i → now ≡ items ++ kept ∷ [] → lines ≡ onto (i ∷ []) ahead → onto items lines ≡ all → onto now ahead ≡ all
one-more items now i kept lines ahead all same grown is held =
    ap (λ l. onto l ahead) (grown ∙ ap (λ k. items ++ k ∷ []) same) ∙ (sym (ap (onto items) is ∙ onto-onto items i ahead) ∙ held)

-- sound items with one more
more-sound : (front : List Item) (next : Item) → AreItems front → IsItem next → AreItems (front ++ next ∷ [])
more-sound [] next all one = (one, tt)
more-sound (i ∷ is) next all one = (all.0, more-sound is next all.1 one)

pub one-sound : (items now : List Item) (i kept : Item) → kept ≡ i → now ≡ items ++ kept ∷ [] → AreItems items → IsItem i → AreItems now
one-sound items now i kept same grown all one = subst AreItems (sym (grown ∙ ap (λ k. items ++ k ∷ []) same)) (more-sound items i all one)

-- the first piece of bytes, where a newline stands or none does
pub piece-to : (bytes : List ℕ) (at : ℕ) → IsNewlineAt bytes at → take (at + 1) bytes ≡ piece_of bytes
piece-to bytes at is = ap (λ k. take k bytes) (add-one at) ∙ sym (ap piece_of (sym (append-nil bytes)) ∙ piece-at bytes [] at is)

pub after-to : (bytes : List ℕ) (at : ℕ) → IsNewlineAt bytes at → drop (at + 1) bytes ≡ after_piece bytes
after-to bytes at is = ap (λ k. drop k bytes) (add-one at) ∙ sym (ap after_piece (sym (append-nil bytes)) ∙ after-at bytes [] at is ∙ append-nil (drop (suc at) bytes))

pub piece-whole : (bytes : List ℕ) → HasNoNewline bytes → take (length bytes) bytes ≡ piece_of bytes
piece-whole bytes none = take-length bytes ∙ sym (ap piece_of (sym (append-nil bytes)) ∙ piece-none bytes [] none ∙ append-nil bytes)

pub after-whole : (bytes : List ℕ) → HasNoNewline bytes → drop (length bytes) bytes ≡ after_piece bytes
after-whole bytes none = drop-length bytes ∙ sym (ap after_piece (sym (append-nil bytes)) ∙ after-none bytes [] none)

-- whether there are bytes
pub empty-at : (n : ℕ) (empty : Bool) → empty ≡ (n == 0) → empty ≡ true → n ≡ 0
empty-at n empty is hit = grind (arith, nat_tests)

pub some-at : (n : ℕ) (empty : Bool) → empty ≡ (n == 0) → empty ≡ false → 0 < n
some-at n empty is miss = grind (arith, nat_tests)
