-- The starts of buckets.
use Rattle.std.proofs.Common.{◌≡◌, ℕ, zero, suc, ◌+◌, ◌-◌, ◌*◌, ◌/◌, ◌<◌, ◌≤◌, refl, sym, ap, ◌∙◌, subst, arith, ℤ, pos, negsuc, neg_ℤ, ◌*ℤ◌, ◌≤ℤ◌}
use Rattle.std.proofs.lemmas.Int.{ints}
use Rattle.std.proofs.lemmas.Nat.{div-mul-add, le-div, div_below}
use Rattle.std.proofs.Math.Nat.{mod_self, mul-div-mul_left, div-div-eq-div-mul, mul-le-mul_left}
use Rattle.time_text.specs.Bucket.{bucket_start}
use Rattle.time_text.specs.Laws.{BucketIsGreatest, BucketOfInstant, BucketsNest}

-- the start for a moment from 1970 on
pub bucket_start-pos : (n t : ℕ) → bucket_start n (pos t) ≡ pos (n * (t / n))
unfolding bucket_start
bucket_start-pos n t = refl

narrow_div : (m k a : ℕ) → 0 < m → m * (a / m) / (m * k) ≡ a / (m * k)
narrow_div m k a h = mul-div-mul_left (a / m) k h ∙ div-div-eq-div-mul a m k

-- the same from the last number of the bucket
narrow_div_end : (m k a : ℕ) → 0 < m → (m * suc (a / m) - 1) / (m * k) ≡ a / (m * k)
narrow_div_end m k a h =
    let last : m * suc (a / m) - 1 ≡ a / m * m + (m - 1) = omega arith in
    let same : (m * suc (a / m) - 1) / m ≡ a / m = rw last (div-mul-add (a / m) m (m - 1) (omega arith)) in
    sym (div-div-eq-div-mul (m * suc (a / m) - 1) m k) ∙ ap (λ q. q / k) same ∙ div-div-eq-div-mul a m k

neg-pos : (x : ℕ) → 0 < x → neg_ℤ (pos x) ≡ negsuc (x - 1)
neg-pos zero h = absurd (omega arith)
neg-pos (suc x) h = let same : x ≡ suc x - 1 = omega arith in ap negsuc same

nest_by : (m k : ℕ) (t : ℤ) → 0 < m → bucket_start (m * k) (bucket_start m t) ≡ bucket_start (m * k) t
unfolding bucket_start
nest_by m k (pos a) h = ap (λ q. pos (m * k * q)) (narrow_div m k a h)
nest_by m k (negsuc a) h =
    let some : 0 < m * suc (a / m) = omega arith in
    rw (neg-pos (m * suc (a / m)) some) (ap (λ q. neg_ℤ (pos (m * k * suc q))) (narrow_div_end m k a h))

-- folding twice is folding once
pub nest : BucketsNest
nest m n t wide narrow multiple =
    let e : m * (n / m) ≡ n = omega arith in
    let P : ℕ → Type 0 = λ x. bucket_start x (bucket_start m t) ≡ bucket_start x t in
    subst P e (nest_by m (n / m) t narrow)

most_pos : (n a : ℕ) (k : ℤ) → 0 < n → (pos n *ℤ k) ≤ℤ pos a → (pos n *ℤ k) ≤ℤ pos (n * (a / n))
most_pos n a (pos j) h le =
    let small : j * n ≤ a = omega (arith, ints) in
    let more = mul-le-mul_left n (le-div j a n h small) in
    omega (arith, ints)
most_pos n a (negsuc j) h le = omega (arith, ints)

most_neg : (n a : ℕ) (k : ℤ) → 0 < n → (pos n *ℤ k) ≤ℤ negsuc a → (pos n *ℤ k) ≤ℤ neg_ℤ (pos (n * suc (a / n)))
most_neg n a (pos j) h le = absurd (omega (arith, ints))
most_neg n a (negsuc j) h le =
    let small : a < suc j * n = omega (arith, ints) in
    let more = mul-le-mul_left n (div_below a n (suc j) h small) in
    omega (arith, ints)

greatest_pos : (n a : ℕ) → 0 < n →
    ((k : ℤ) × (bucket_start n (pos a) ≡ pos n *ℤ k)) × (bucket_start n (pos a) ≤ℤ pos a) ×
    ((k : ℤ) → (pos n *ℤ k) ≤ℤ pos a → (pos n *ℤ k) ≤ℤ bucket_start n (pos a))
unfolding bucket_start
greatest_pos n a h = ((pos (a / n), refl), omega (arith, ints), λ k le. most_pos n a k h le)

greatest_neg : (n a : ℕ) → 0 < n →
    ((k : ℤ) × (bucket_start n (negsuc a) ≡ pos n *ℤ k)) × (bucket_start n (negsuc a) ≤ℤ negsuc a) ×
    ((k : ℤ) → (pos n *ℤ k) ≤ℤ negsuc a → (pos n *ℤ k) ≤ℤ bucket_start n (negsuc a))
unfolding bucket_start
greatest_neg n a h =
    let end : a < n * suc (a / n) = omega arith in
    ((negsuc (a / n), refl), omega (arith, ints), λ k le. most_neg n a k h le)

pub greatest : BucketIsGreatest
greatest n (pos a) h = greatest_pos n a h
greatest n (negsuc a) h = greatest_neg n a h

pub of_instant : BucketOfInstant
of_instant n (pos a) h instant = rw (bucket_start-pos n a) (omega (arith, ints))
of_instant n (negsuc a) h instant = absurd (omega (arith, ints))

-- a bucket's start begins its own bucket
pub bucket_start-bucket_start : (n : ℕ) (t : ℤ) → 0 < n → bucket_start n (bucket_start n t) ≡ bucket_start n t
bucket_start-bucket_start n t h = nest n n t h h (mod_self n)
