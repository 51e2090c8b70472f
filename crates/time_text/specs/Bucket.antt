-- Buckets of a width.
use Rattle.std.specs.Prelude.{ℕ, ℤ, pos, ◌*ℤ◌}
use Rattle.std.specs.Int.{int_div_euclid}

-- the start of the bucket of so many milliseconds that has a moment: n * (t div n)
unfoldable pub bucket_start : ℕ → ℤ → ℤ
bucket_start n t = pos n *ℤ int_div_euclid t (pos n)
