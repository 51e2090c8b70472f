use Rattle.std.proofs.Common.{◌≡◌, ℕ, suc, zero, ◌+◌, ◌*◌, ◌/◌, ◌%◌, ◌^◌, ◌<◌, ◌≤◌, List, [], ◌∷◌, ◌++◌, length, get_or, take, set, add-one, refl, sym, ◌∙◌, ap, subst, arith}
use Rattle.std.specs.List.{All}
use Rattle.std.proofs.lemmas.List.Elements.{All-head, All-tail, All-cons, All-nil}
use Rattle.std.proofs.lemmas.Nat.{pow-add, mul-add-lt}
use Rattle.std.proofs.lemmas.List.{length-take-le, take_more, take_more_set}
use Rattle.std.proofs.Math.Nat.{pow-suc, pow-succ', mul-le-mul_left, pow-zero, div-div-eq-div-mul, mod-add-div, add-mul-mod_self_left, mod-eq_of_lt, mod-lt, add-mul-div_left, div-eq_of_lt, div-one}
use Rattle.column_pack.specs.Digits.{number, digits}

pub pow-mul : (a m n : ℕ) → a ^ (m * n) ≡ (a ^ m) ^ n
pow-mul a m zero = let e : m * 0 ≡ 0 = omega arith in rw (e, pow-zero, pow-zero) refl
pow-mul a m (suc n) = let e : m * suc n ≡ m * n + m = omega arith in rw (e, pow-add, pow-suc) (ap (λ z. z * a ^ m) (pow-mul a m n))

-- a number of digits, and one digit more behind them
pub put-pending : (k w c f i p r n m : ℕ) → k * c + f ≡ i * w → n + (2 ^ k) ^ c * p ≡ m → n + (2 ^ k) ^ c * (p + r * 2 ^ f) ≡ m + (2 ^ w) ^ i * r
put-pending k w c f i p r n m e h =
    let s : (2 ^ k) ^ c * 2 ^ f ≡ (2 ^ w) ^ i = ap (λ z. z * 2 ^ f) (sym (pow-mul 2 k c)) ∙ sym (pow-add 2 (k * c) f) ∙ ap (λ z. 2 ^ z) (e ∙ omega arith) ∙ pow-mul 2 w i in
    let t : (2 ^ k) ^ c * 2 ^ f * r ≡ (2 ^ w) ^ i * r = ap (λ z. z * r) s in
    omega arith

-- ---- numbers by their digits
pub number-append : (b : ℕ) (xs ys : List ℕ) → number b (xs ++ ys) ≡ number b xs + b ^ length xs * number b ys
number-append b [] ys = let e : b ^ 0 ≡ 1 = pow-zero b in rw e (omega arith)
number-append b (x ∷ xs) ys =
    let ih : b * number b (xs ++ ys) ≡ b * (number b xs + b ^ length xs * number b ys) = ap (λ z. b * z) (number-append b xs ys) in
    let p : b ^ suc (length xs) * number b ys ≡ b ^ length xs * b * number b ys = ap (λ z. z * number b ys) (pow-suc b (length xs)) in
    omega arith

pub number-push : (b : ℕ) (xs : List ℕ) (y : ℕ) → number b (xs ++ y ∷ []) ≡ number b xs + b ^ length xs * y
number-push b xs y = number-append b xs (y ∷ []) ∙ ap (λ z. number b xs + b ^ length xs * z) (omega arith)

pub number-lt : (b : ℕ) (xs : List ℕ) → All (λ x. x < b) xs → number b xs < b ^ length xs
number-lt b [] h = omega (arith, pow-zero b)
number-lt b (x ∷ xs) h =
    let ih : number b xs < b ^ length xs = number-lt b xs (All-tail (λ x. x < b) x xs h) in
    let hd : x < b = All-head (λ x. x < b) x xs h in
    let m : b * (number b xs + 1) ≤ b * b ^ length xs = mul-le-mul_left b (omega arith) in
    rw pow-suc (omega arith)

-- one digit more at its place
pub number-more : (b : ℕ) (xs : List ℕ) (i : ℕ) → i < length xs → number b (take (i + 1) xs) ≡ number b (take i xs) + b ^ i * get_or xs i 0
number-more b xs i h = let l : length (take i xs) ≡ i = length-take-le i xs (omega arith) in
    ap (number b) (take_more xs i 0 h) ∙ number-push b (take i xs) (get_or xs i 0) ∙ ap (λ z. number b (take i xs) + b ^ z * get_or xs i 0) l

pub number-more_set : (b : ℕ) (xs : List ℕ) (i y : ℕ) → i < length xs → number b (take (i + 1) (set xs i y)) ≡ number b (take i xs) + b ^ i * y
number-more_set b xs i y h = let l : length (take i xs) ≡ i = length-take-le i xs (omega arith) in
    ap (number b) (take_more_set xs i y h) ∙ number-push b (take i xs) y ∙ ap (λ z. number b (take i xs) + b ^ z * y) l

-- the lowest digit of what is pending is put, and the rest is pending
pub put-word : (b c p n m : ℕ) → n + b ^ c * p ≡ m → n + b ^ c * (p % b) + b ^ (c + 1) * (p / b) ≡ m
put-word b c p n m h =
    let e : b ^ c * (p % b + b * (p / b)) ≡ b ^ c * p = ap (λ z. b ^ c * z) (mod-add-div p b) in
    let f : b ^ (c + 1) * (p / b) ≡ b ^ c * b * (p / b) = ap (λ z. z * (p / b)) (ap (λ z. b ^ z) (add-one c) ∙ pow-suc b c) in
    omega arith

pub pending-lt : (p f r w : ℕ) → p < 2 ^ f → r < 2 ^ w → p + r * 2 ^ f < 2 ^ (f + w)
pending-lt p f r w h k = let a : r * 2 ^ f + p < 2 ^ f * 2 ^ w = mul-add-lt r (2 ^ f) p (2 ^ w) k h in rw pow-add (omega arith)

-- ---- digits
pub length-digits : (b c n : ℕ) → length (digits b c n) ≡ c
length-digits b zero n = refl
length-digits b (suc c) n = ap suc (length-digits b c (n / b))

pub digits-below : (b c n : ℕ) → 0 < b → All (λ x. x < b) (digits b c n)
digits-below b zero n h = All-nil (λ x. x < b)
digits-below b (suc c) n h = All-cons (λ x. x < b) (n % b) (digits b c (n / b)) (mod-lt n h) (digits-below b c (n / b) h)

-- the digits, and what is left behind them
pub number-digits-rest : (b c n : ℕ) → number b (digits b c n) + b ^ c * (n / b ^ c) ≡ n
number-digits-rest b zero n = rw (pow-zero, div-one) (omega arith)
number-digits-rest b (suc c) n =
    let ih : b * (number b (digits b c (n / b)) + b ^ c * (n / b / b ^ c)) ≡ b * (n / b) = ap (λ z. b * z) (number-digits-rest b c (n / b)) in
    let d : n / b / b ^ c ≡ n / b ^ suc c = div-div-eq-div-mul n b (b ^ c) ∙ ap (λ z. n / z) (sym (pow-succ' b c)) in
    let p : b ^ suc c * (n / b ^ suc c) ≡ b * b ^ c * (n / b ^ suc c) = ap (λ z. z * (n / b ^ suc c)) (pow-succ' b c) in
    rest (n % b) b (number b (digits b c (n / b))) (b ^ c) (n / b / b ^ c) (n / b ^ suc c) (n / b) n (b ^ suc c) ih d p (mod-add-div n b)
  where
    rest : (m b x y q r t n z : ℕ) → b * (x + y * q) ≡ b * t → q ≡ r → z * r ≡ b * y * r → m + b * t ≡ n → m + b * x + z * r ≡ n
    rest m b x y q r t n z f d p e = let g : b * (x + y * r) ≡ b * t = subst (λ v. b * (x + y * v) ≡ b * t) d f in omega arith

pub number-digits : (b c n : ℕ) → n < b ^ c → number b (digits b c n) ≡ n
number-digits b c n h = let z : n / b ^ c ≡ 0 = div-eq_of_lt h in let e : number b (digits b c n) + b ^ c * (n / b ^ c) ≡ n = number-digits-rest b c n in let f : b ^ c * (n / b ^ c) ≡ 0 = ap (λ v. b ^ c * v) z ∙ omega arith in omega arith

pub digits-number : (b : ℕ) (xs : List ℕ) → 0 < b → All (λ x. x < b) xs → digits b (length xs) (number b xs) ≡ xs
digits-number b [] p h = refl
digits-number b (x ∷ xs) p h =
    let hd : x < b = All-head (λ x. x < b) x xs h in
    let e : (x + b * number b xs) % b ≡ x = add-mul-mod_self_left x b (number b xs) ∙ mod-eq_of_lt hd in
    let f : (x + b * number b xs) / b ≡ number b xs = add-mul-div_left x (number b xs) p ∙ ap (λ z. z + number b xs) (div-eq_of_lt hd) ∙ omega arith in
    rw (e, f) (ap (λ ys. x ∷ ys) (digits-number b xs p (All-tail (λ x. x < b) x xs h)))

pub take-digits : (b k d n : ℕ) → take k (digits b (k + d) n) ≡ digits b k n
take-digits b zero d n = refl
take-digits b (suc k) d n = let e : suc k + d ≡ suc (k + d) = omega arith in rw e (ap (λ ys. n % b ∷ ys) (take-digits b k d (n / b)))

pub digits-append : (b c d n : ℕ) → digits b (c + d) n ≡ digits b c n ++ digits b d (n / b ^ c)
digits-append b zero d n = let e : 0 + d ≡ d = omega arith in rw (e, pow-zero, div-one) refl
digits-append b (suc c) d n =
    let e : suc c + d ≡ suc (c + d) = omega arith in
    let q : n / b / b ^ c ≡ n / b ^ suc c = div-div-eq-div-mul n b (b ^ c) ∙ ap (λ z. n / z) (sym (pow-succ' b c)) in
    rw (e, ← q) (ap (λ ys. n % b ∷ ys) (digits-append b c d (n / b)))

-- one digit more
pub digits-more : (b c n : ℕ) → digits b (c + 1) n ≡ digits b c n ++ (n / b ^ c % b) ∷ []
digits-more b c n = digits-append b c 1 n

-- what stands above some digits doesn't show in them
pub digits-low : (b c x y : ℕ) → 0 < b → digits b c (x + b ^ c * y) ≡ digits b c x
digits-low b zero x y p = refl
digits-low b (suc c) x y p =
    let e : b ^ suc c * y ≡ b * (b ^ c * y) = ap (λ z. z * y) (pow-succ' b c) ∙ omega arith in
    rw (e, add-mul-mod_self_left x b (b ^ c * y), add-mul-div_left x (b ^ c * y) p) (ap (λ ys. x % b ∷ ys) (digits-low b c (x / b) y p))
