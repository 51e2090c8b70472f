-- The key of cells as a function, and what a call says of it.
use Rattle.std.specs.Prelude.{◌≡◌, ◌↔◌, ℕ, ◌<◌, nat_le, if◌then◌else◌, Bool, true, false, List, length}
use Rattle.std.specs.declared.result.Result.{Result}
use Rattle.std.specs.declared.result.Result.TheVariants.{Ok, Err}
use Rattle.std.proofs.Common.{refl, ap, ◌∙◌, sym, subst}
use Rattle.std.proofs.lemmas.Bool.{le-leb, lt-leb, leb-true}
use Rattle.row_cells.specs.declared.schemas.Schema.{Schema}
use Rattle.row_cells.specs.declared.rows.Cell.{Cell}
use Rattle.row_cells.specs.Limits.{longest_key}
use Rattle.row_cells.specs.Mapped.{HaveKey, is_routed, series_bytes}
use Rattle.series_id.specs.declared.keys.KeyError.{KeyError}
use Rattle.series_id.specs.declared.keys.KeyError.TheVariants.{NoRouting, KeyTooLong, NoMemory}
use Rattle.series_id.specs.Keys.{IsKeyFault, IsKeyCause, keyed}

routed_is : (schema : Schema) (cells : List Cell) (b : Bool) → is_routed schema cells ≡ b →
    keyed schema cells ≡ (if b then (if nat_le (length (series_bytes schema cells)) longest_key then Ok (series_bytes schema cells) else Err (KeyTooLong (length (series_bytes schema cells)))) else Err NoRouting)
routed_is schema cells b is =
    ap (λ t. outcome t (nat_le (length (series_bytes schema cells)) longest_key)) is
  where
    outcome : Bool → Bool → Result (List ℕ) KeyError
    outcome t short = if t then (if short then Ok (series_bytes schema cells) else Err (KeyTooLong (length (series_bytes schema cells)))) else Err NoRouting

-- cells that have a key are keyed by it
pub keyed_ok : (schema : Schema) (cells : List Cell) → HaveKey schema cells → keyed schema cells ≡ Ok (series_bytes schema cells)
keyed_ok schema cells have = routed_is schema cells true have.routed ∙ ap (λ t. outcome t) (le-leb (length (series_bytes schema cells)) longest_key have.short)
  where
    outcome : Bool → Result (List ℕ) KeyError
    outcome short = if short then Ok (series_bytes schema cells) else Err (KeyTooLong (length (series_bytes schema cells)))

pub keyed_fault : (schema : Schema) (cells : List Cell) (error : KeyError) → IsKeyFault schema cells error → IsKeyCause (keyed schema cells) error
keyed_fault schema cells NoRouting fault = routed_is schema cells false fault
keyed_fault schema cells NoMemory fault = tt
keyed_fault schema cells (KeyTooLong bytes) fault =
    routed_is schema cells true fault.0
    ∙ (ap (λ t. outcome t) (lt-leb (length (series_bytes schema cells)) longest_key (subst (λ n. longest_key < n) (sym fault.1) fault.2))
    ∙ ap (λ n. too_long n) fault.1)
  where
    outcome : Bool → Result (List ℕ) KeyError
    outcome short = if short then Ok (series_bytes schema cells) else Err (KeyTooLong (length (series_bytes schema cells)))

    too_long : ℕ → Result (List ℕ) KeyError
    too_long n = Err (KeyTooLong n)

-- what keys the cells is the key that they have
pub keyed_told : (schema : Schema) (cells : List Cell) (key : List ℕ) → keyed schema cells ≡ Ok key → HaveKey schema cells × (key ≡ series_bytes schema cells)
keyed_told schema cells key is = by_route (is_routed schema cells) refl
  where
    outcome : Bool → Result (List ℕ) KeyError
    outcome short = if short then Ok (series_bytes schema cells) else Err (KeyTooLong (length (series_bytes schema cells)))

    by_length : is_routed schema cells ≡ true → (short : Bool) → nat_le (length (series_bytes schema cells)) longest_key ≡ short → outcome short ≡ Ok key → HaveKey schema cells × (key ≡ series_bytes schema cells)
    by_length routed true short same = (record { routed = routed; short = leb-true (length (series_bytes schema cells)) longest_key short }, cc)
    by_length routed false short same = cc

    unrouted : Err NoRouting ≡ Ok key → HaveKey schema cells × (key ≡ series_bytes schema cells)
    unrouted same = cc

    by_route : (routed : Bool) → is_routed schema cells ≡ routed → HaveKey schema cells × (key ≡ series_bytes schema cells)
    by_route true routed = by_length routed (nat_le (length (series_bytes schema cells)) longest_key) refl (sym (routed_is schema cells true routed) ∙ is)
    by_route false routed = unrouted (sym (routed_is schema cells false routed) ∙ is)

-- cells are keyed by a key exactly where they have one, and it is this
pub keyed_iff : (schema : Schema) (cells : List Cell) (key : List ℕ) → (keyed schema cells ≡ Ok key) ↔ (HaveKey schema cells × (key ≡ series_bytes schema cells))
keyed_iff schema cells key = (keyed_told schema cells key, λ has. keyed_ok schema cells has.0 ∙ ap (λ bytes. Ok bytes) (sym has.1))
