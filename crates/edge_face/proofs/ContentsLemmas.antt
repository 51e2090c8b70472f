-- How what a device tells changes over several calls.
use Rattle.std.proofs.Common.{◌≡◌, ◌∙◌, ℕ, ◌+◌, ◌-◌, length, take, drop, length-drop, List, [], ◌++◌, Option, Some, None, refl, ap, sym, append_assoc, append-nil}
use Rattle.std.proofs.Math.Seq.{take-add, take-length}
use Rattle.edge_face.specs.Contents.{appended, preceded}

-- two pieces given one after the other
pub appended-appended : (contents : Option (List ℕ)) (a b : List ℕ) → appended (appended contents a) b ≡ appended contents (a ++ b)
appended-appended None a b = refl
appended-appended (Some held) a b = ap Some (append_assoc held a b)

-- nothing given changes nothing
pub appended-nothing : (contents : Option (List ℕ)) → appended contents [] ≡ contents
appended-nothing None = refl
appended-nothing (Some held) = ap Some (append-nil held)

-- two pieces in front of what is left
pub preceded-preceded : (a b : List ℕ) (left : Option (List ℕ)) → preceded a (preceded b left) ≡ preceded (a ++ b) left
preceded-preceded a b None = refl
preceded-preceded a b (Some rest) = ap Some (sym (append_assoc a b rest))

-- nothing in front
pub preceded-nothing : (left : Option (List ℕ)) → preceded [] left ≡ left
preceded-nothing None = refl
preceded-nothing (Some rest) = refl

-- the first i bytes, and then n more of the rest
pub appended-take : (contents : Option (List ℕ)) (bytes : List ℕ) (i n : ℕ) → appended (appended contents (take i bytes)) (take n (drop i bytes)) ≡ appended contents (take (i + n) bytes)
appended-take contents bytes i n = appended-appended contents (take i bytes) (take n (drop i bytes)) ∙ ap (appended contents) (sym (take-add i n bytes))

-- what a slice from i to the end has
pub to_end : (bytes : List ℕ) (i : ℕ) → take (length bytes - i) (drop i bytes) ≡ drop i bytes
to_end bytes i = ap (λ n. take n (drop i bytes)) (sym (length-drop i bytes)) ∙ take-length (drop i bytes)
