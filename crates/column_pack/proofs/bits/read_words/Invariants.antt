use Rattle.std.proofs.Common.{◌≡◌, ℕ, ◌+◌, ◌*◌, ◌^◌, ◌≤◌, take, length, get_or}
use Rattle.column_pack.specs.Digits.{number}
use Rattle.column_pack.proofs.bits.read_words.Given as goal

abbrev pub invariant-loop-word : goal.invariant-loop-word
invariant-loop-word l = record {
  value : number (2 ^ 64) (take l.count l.words) + (2 ^ 64) ^ l.count * number 256 l.rest ≡ number 256 l.bytes;
  behind : (k : ℕ) → l.count ≤ k → get_or l.words k 0 ≡ 0;
  room : 8 * l.count + length l.rest ≡ length l.bytes;
}

abbrev pub decreases-loop-word : goal.decreases-loop-word
decreases-loop-word l = length l.rest
