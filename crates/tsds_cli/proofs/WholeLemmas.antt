-- What a run that is done says of a told script.
use Rattle.std.proofs.Common.{◌≡◌, ◌∙◌, ℕ, List, [], ◌++◌, false, Option, None, Some, IfSome, ap, sym, subst, append-nil}
use Rattle.edge_face.specs.Contents.{preceded}
use Rattle.tsds_cli.specs.Script.{events_of}
use Rattle.tsds_cli.specs.Limits.{is_too_long}
use Rattle.tsds_cli.specs.Play.{Play, Standing, PutAll}
use Rattle.tsds_cli.specs.Ends.{PutWhole}

-- what holds of the bytes taken holds of a told script of which nothing is left
whole-is : (P : List ℕ → Type 0) (taken : List ℕ) (script left : Option (List ℕ)) → script ≡ preceded taken left → IfSome left (λ rest. rest ≡ []) → P taken → IfSome script P
whole-is P taken None left is drained h = tt
whole-is P taken (Some all) None is drained h = absurd (none is)
  where
    none : {x : List ℕ} → ◌≡◌ {A = Option (List ℕ)} (Some x) None → ⊥
    none e = cc
whole-is P taken (Some all) (Some rest) is drained h = subst P (sym (some is ∙ ap (λ l. taken ++ l) drained ∙ append-nil taken)) h
  where
    some : {x y : List ℕ} → ◌≡◌ {A = Option (List ℕ)} (Some x) (Some y) → x ≡ y
    some e = cc

pub whole-put : {S : Type 0} (play : Play S) (start now : Standing S) (script left given0 given : Option (List ℕ)) → PutWhole play start now script left given0 given → IfSome script (λ all. PutAll play start.state given0 given (events_of all))
whole-put play start now script left given0 given h = whole-is (λ all. PutAll play start.state given0 given (events_of all)) h.taken script left h.taken_is h.drained h.put

pub whole-short : {S : Type 0} (play : Play S) (start now : Standing S) (script left given0 given : Option (List ℕ)) → PutWhole play start now script left given0 given → IfSome script (λ all. is_too_long all ≡ false)
whole-short play start now script left given0 given h = whole-is (λ all. is_too_long all ≡ false) h.taken script left h.taken_is h.drained h.short
