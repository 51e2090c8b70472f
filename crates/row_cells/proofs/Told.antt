-- What is read of bytes is spelled there.
use Rattle.std.specs.Prelude.{◌≡◌, ℕ, zero, suc, pos, ◌-ℤ◌, ◌<◌, ◌≤◌, ◌^◌, nat_lt, nat_eq, Option, Some, None, List, [], ◌∷◌, ◌++◌, length, Bool, true, false, cond, FitsSigned}
use Rattle.std.specs.Int.{w16, w64, to_be_bytes, from_be_bytes}
use Rattle.std.specs.Str.{is_utf8}
use Rattle.std.proofs.Common.{refl, ap, ◌∙◌, sym, subst, arith, get_or, take, drop, append_assoc}
use Rattle.std.proofs.lemmas.Bool.{eqb-true, ltb-false}
use Rattle.std.proofs.lemmas.List.{take-append-drop, length-take-le}
use Rattle.std.proofs.lemmas.Str.{IsUtf8-from_is_utf8}
use Rattle.time_text.specs.Shape.{◌>>=◌}
use Rattle.row_cells.specs.declared.scalars.Scalar.{Scalar}
use Rattle.row_cells.specs.declared.scalars.Scalar.TheVariants.{Whole, Flag, Word}
use Rattle.row_cells.specs.Dimensions.{Dimension, IsDimension, IsKeyValue, text_bytes, above_least, flag_byte, value_bytes, dimension_bytes}
use Rattle.row_cells.specs.Heads.{utf8_word, word_at, whole_at, flag_at, value_at, dimension_at, dimension_with}
use Rattle.row_cells.specs.HeadLaws.{text_read, value_read}
use Rattle.row_cells.specs.KeyLaws.{text_bytes_read, eight_bytes}
use Rattle.row_cells.specs.Texts.{cut, text_at}
use Rattle.row_cells.proofs.Reading.{dimension_from, some_is}
use Rattle.row_cells.proofs.Spelled.{small_take}

none_is_some : {A : Type 0} (x : A) → None ≡ Some x → ⊥
none_is_some x e = cc

bind_told : {A B : Type 0} (o : Option A) (f : A → Option B) (y : B) → (o >>= f) ≡ Some y → (x : A) × (o ≡ Some x) × (f x ≡ Some y)
bind_told None f y is = absurd (none_is_some y is)
bind_told (Some x) f y is = (x, refl, is)

-- ---- bytes

abbrev pub AreSmall : List ℕ → Type 0
AreSmall xs = (i : ℕ) → get_or xs i 0 < 256

small_drop : (n : ℕ) (xs : List ℕ) → AreSmall xs → AreSmall (drop n xs)
small_drop zero xs small i = small i
small_drop (suc n) [] small i = omega arith
small_drop (suc n) (x ∷ xs) small i = small_drop n xs (λ k. small (suc k)) i

-- ---- texts

record CutTold (n : ℕ) (bytes front back : List ℕ) : Type 0 where
  front_is : front ≡ take n bytes
  back_is : back ≡ drop n bytes
  enough : n ≤ length bytes

cut_told : (n : ℕ) (bytes : List ℕ) (p : List ℕ × List ℕ) → cut n bytes ≡ Some p → CutTold n bytes p.0 p.1
cut_told n bytes p is = go (nat_lt (length bytes) n) refl is
  where
    go : (t : Bool) → nat_lt (length bytes) n ≡ t → cond {A = Option (List ℕ × List ℕ)} t None (Some (take n bytes, drop n bytes)) ≡ Some p → CutTold n bytes p.0 p.1
    go true e same = absurd (none_is_some p same)
    go false e same = record { front_is = ap (λ q. q.0) (sym (some_is same)); back_is = ap (λ q. q.1) (sym (some_is same)); enough = ltb-false (length bytes) n e }

whole : (n : ℕ) (bytes front back : List ℕ) → CutTold n bytes front back → bytes ≡ front ++ back
whole n bytes front back told = sym (take-append-drop n bytes) ∙ (ap (λ x. x ++ drop n bytes) (sym told.front_is) ∙ ap (λ x. front ++ x) (sym told.back_is))

long : (n : ℕ) (bytes front back : List ℕ) → CutTold n bytes front back → length front ≡ n
long n bytes front back told = ap length told.front_is ∙ length-take-le n bytes told.enough

front_small : (n : ℕ) (bytes front back : List ℕ) → CutTold n bytes front back → AreSmall bytes → AreSmall front
front_small n bytes front back told small = subst AreSmall (sym told.front_is) (small_take n bytes small)

back_small : (n : ℕ) (bytes front back : List ℕ) → CutTold n bytes front back → AreSmall bytes → AreSmall back
back_small n bytes front back told small = subst AreSmall (sym told.back_is) (small_drop n bytes small)

two_small : (bs : List ℕ) → AreSmall bs → from_be_bytes w16 bs < 2 ^ 16
two_small bs small = omega (arith, small 0, small 1)

record TextTold (bytes text rest : List ℕ) : Type 0 where
  begins : bytes ≡ text_bytes text ++ rest
  short : length text < 2 ^ 16
  small : AreSmall rest

text_cut : (bytes head tail text rest : List ℕ) → AreSmall bytes → CutTold 2 bytes head tail → CutTold (from_be_bytes w16 head) tail text rest → TextTold bytes text rest
text_cut bytes head tail text rest small first second =
    let count : length text ≡ from_be_bytes w16 head = long (from_be_bytes w16 head) tail text rest second in
    let head_small = front_small 2 bytes head tail first small in
    let joined : bytes ≡ head ++ (text ++ rest) = whole 2 bytes head tail first ∙ ap (λ x. head ++ x) (whole (from_be_bytes w16 head) tail text rest second) in
    record {
      begins = joined ∙ text_bytes_read head text rest (long 2 bytes head tail first) head_small count;
      short = omega (arith, count, two_small head head_small);
      small = back_small (from_be_bytes w16 head) tail text rest second (back_small 2 bytes head tail first small);
    }

text_told : (bytes : List ℕ) (t : List ℕ × List ℕ) → AreSmall bytes → text_at bytes ≡ Some t → TextTold bytes t.0 t.1
unfolding text_at
text_told bytes t small is =
    let first = bind_told (cut 2 bytes) (λ head. cut (from_be_bytes w16 head.0) head.1) t is in
    let head = first.0 in
    text_cut bytes head.0 head.1 t.0 t.1 small (cut_told 2 bytes head first.1) (cut_told (from_be_bytes w16 head.0) head.1 t first.2)

-- ---- values

record ValueTold (bytes : List ℕ) (v : Scalar) (rest : List ℕ) : Type 0 where
  begins : bytes ≡ value_bytes v ++ rest
  fits : IsKeyValue v

word_told : (bytes : List ℕ) (f : Scalar × List ℕ) → AreSmall bytes → word_at bytes ≡ Some f → ValueTold (1 ∷ bytes) f.0 f.1
unfolding word_at
word_told bytes f small is =
    let first = bind_told (text_at bytes) utf8_word f is in
    let text = first.0 in
    go text.0 text.1 (text_told bytes text small first.1) (is_utf8 text.0) refl first.2
  where
    go : (text rest : List ℕ) → TextTold bytes text rest → (b : Bool) → is_utf8 text ≡ b → cond {A = Option (Scalar × List ℕ)} b (Some (Word text, rest)) None ≡ Some f → ValueTold (1 ∷ bytes) f.0 f.1
    go text rest told true e same = subst (λ p. ValueTold (1 ∷ bytes) p.0 p.1) (some_is same) (record { begins = ap (λ x. 1 ∷ x) told.begins; fits = (IsUtf8-from_is_utf8 text e, told.short) })
    go text rest told false e same = absurd (none_is_some f same)

whole_cut : (bytes head rest : List ℕ) → AreSmall bytes → CutTold 8 bytes head rest → ValueTold (2 ∷ bytes) (Whole (pos (from_be_bytes w64 head) -ℤ pos (2 ^ 63))) rest
whole_cut bytes head rest small told =
    let n = eight_bytes head (long 8 bytes head rest told) (front_small 8 bytes head rest told small) in
    let spelled : to_be_bytes w64 (above_least (pos (from_be_bytes w64 head) -ℤ pos (2 ^ 63))) ≡ head = ap (λ k. to_be_bytes w64 (above_least k)) (sym n.number_is) ∙ n.spelled in
    record {
      begins = ap (λ x. 2 ∷ x) (whole 8 bytes head rest told ∙ ap (λ h. h ++ rest) (sym spelled));
      fits = subst (FitsSigned w64) n.number_is n.fits;
    }

whole_told : (bytes : List ℕ) (f : Scalar × List ℕ) → AreSmall bytes → whole_at bytes ≡ Some f → ValueTold (2 ∷ bytes) f.0 f.1
unfolding whole_at
whole_told bytes f small is =
    let first = bind_told (cut 8 bytes) (λ head. Some (Whole (pos (from_be_bytes w64 head.0) -ℤ pos (2 ^ 63)), head.1)) f is in
    let head = first.0 in
    subst (λ p. ValueTold (2 ∷ bytes) p.0 p.1) (some_is first.2) (whole_cut bytes head.0 head.1 small (cut_told 8 bytes head first.1))

flag_is : (flag : Bool) (rest : List ℕ) (f : Scalar × List ℕ) → Some (Flag flag, rest) ≡ Some f → ValueTold (3 ∷ (flag_byte flag ∷ rest)) f.0 f.1
flag_is flag rest f same = subst (λ p. ValueTold (3 ∷ (flag_byte flag ∷ rest)) p.0 p.1) (some_is same) (record { begins = refl; fits = tt })

flag_one : (byte : ℕ) (rest : List ℕ) (f : Scalar × List ℕ) (t : Bool) → nat_eq byte 1 ≡ t → (cond {A = Option Bool} t (Some true) None >>= (λ flag. Some (Flag flag, rest))) ≡ Some f → ValueTold (3 ∷ (byte ∷ rest)) f.0 f.1
flag_one byte rest f true e is = subst (λ n. ValueTold (3 ∷ (n ∷ rest)) f.0 f.1) (sym (eqb-true byte 1 e)) (flag_is true rest f is)
flag_one byte rest f false e is = absurd (none_is_some f is)

flag_zero : (byte : ℕ) (rest : List ℕ) (f : Scalar × List ℕ) (t : Bool) → nat_eq byte 0 ≡ t → (cond {A = Option Bool} t (Some false) (cond {A = Option Bool} (nat_eq byte 1) (Some true) None) >>= (λ flag. Some (Flag flag, rest))) ≡ Some f → ValueTold (3 ∷ (byte ∷ rest)) f.0 f.1
flag_zero byte rest f true e is = subst (λ n. ValueTold (3 ∷ (n ∷ rest)) f.0 f.1) (sym (eqb-true byte 0 e)) (flag_is false rest f is)
flag_zero byte rest f false e is = flag_one byte rest f (nat_eq byte 1) refl is

flag_told : (bytes : List ℕ) (f : Scalar × List ℕ) → flag_at bytes ≡ Some f → ValueTold (3 ∷ bytes) f.0 f.1
flag_told [] f is = absurd (none_is_some f is)
flag_told (byte ∷ rest) f is = flag_zero byte rest f (nat_eq byte 0) refl is

by_three : (tag : ℕ) (bytes : List ℕ) (f : Scalar × List ℕ) (t : Bool) → nat_eq tag 3 ≡ t → cond {A = Option (Scalar × List ℕ)} t (flag_at bytes) None ≡ Some f → ValueTold (tag ∷ bytes) f.0 f.1
by_three tag bytes f true e is = subst (λ n. ValueTold (n ∷ bytes) f.0 f.1) (sym (eqb-true tag 3 e)) (flag_told bytes f is)
by_three tag bytes f false e is = absurd (none_is_some f is)

by_two : (tag : ℕ) (bytes : List ℕ) (f : Scalar × List ℕ) → AreSmall bytes → (t : Bool) → nat_eq tag 2 ≡ t → cond t (whole_at bytes) (cond (nat_eq tag 3) (flag_at bytes) None) ≡ Some f → ValueTold (tag ∷ bytes) f.0 f.1
by_two tag bytes f small true e is = subst (λ n. ValueTold (n ∷ bytes) f.0 f.1) (sym (eqb-true tag 2 e)) (whole_told bytes f small is)
by_two tag bytes f small false e is = by_three tag bytes f (nat_eq tag 3) refl is

by_one : (tag : ℕ) (bytes : List ℕ) (f : Scalar × List ℕ) → AreSmall bytes → (t : Bool) → nat_eq tag 1 ≡ t → cond t (word_at bytes) (cond (nat_eq tag 2) (whole_at bytes) (cond (nat_eq tag 3) (flag_at bytes) None)) ≡ Some f → ValueTold (tag ∷ bytes) f.0 f.1
by_one tag bytes f small true e is = subst (λ n. ValueTold (n ∷ bytes) f.0 f.1) (sym (eqb-true tag 1 e)) (word_told bytes f small is)
by_one tag bytes f small false e is = by_two tag bytes f small (nat_eq tag 2) refl is

value_told : (bytes : List ℕ) (f : Scalar × List ℕ) → AreSmall bytes → value_at bytes ≡ Some f → ValueTold bytes f.0 f.1
unfolding value_at
value_told [] f small is = absurd (none_is_some f is)
value_told (tag ∷ bytes) f small is = by_one tag bytes f (λ i. small (suc i)) (nat_eq tag 1) refl is

-- ---- dimensions

pub record DimensionTold (bytes : List ℕ) (d : Dimension) (rest : List ℕ) : Type 0 where
  pub begins : bytes ≡ dimension_bytes d ++ rest
  pub fits : IsKeyValue d.value

pub dimension_told : (bytes : List ℕ) (f : Dimension × List ℕ) → AreSmall bytes → dimension_at bytes ≡ Some f → DimensionTold bytes f.0 f.1
unfolding dimension_at
dimension_told bytes f small is =
    let first = bind_told (text_at bytes) dimension_with f is in
    let path = first.0 in
    let second = bind_told (value_at path.1) (λ value. Some (dimension_from path.0 value.0, value.1)) f first.2 in
    let value = second.0 in
    let text = text_told bytes path small first.1 in
    let told = value_told path.1 value text.small second.1 in
    subst (λ p. DimensionTold bytes p.0 p.1) (some_is second.2)
    (record { begins = text.begins ∙ (ap (λ x. text_bytes path.0 ++ x) told.begins ∙ sym (append_assoc (text_bytes path.0) (value_bytes value.0) value.1)); fits = told.fits })

-- where no value is read behind a path, bytes begin with no dimension
pub no_entry : (bytes path tail rest : List ℕ) (d : Dimension) → IsDimension d → bytes ≡ dimension_bytes d ++ rest → text_at bytes ≡ Some (path, tail) → value_at tail ≡ None → ⊥
no_entry bytes path tail rest d is same text value =
    let begins : bytes ≡ text_bytes d.path ++ (value_bytes d.value ++ rest) = same ∙ append_assoc (text_bytes d.path) (value_bytes d.value) rest in
    let there : Some (path, tail) ≡ Some (d.path, value_bytes d.value ++ rest) = sym text ∙ (ap text_at begins ∙ text_read d.path (value_bytes d.value ++ rest) (omega (arith, is.path_short))) in
    none_is_some (d.value, rest) (sym value ∙ (ap value_at (ap (λ p. p.1) (some_is there)) ∙ value_read d.value rest is.value_fits))
