-- Fields of two schemas that are compared one by one.
use Rattle.std.specs.Prelude.{◌≡◌, List, [], ◌∷◌}
use Rattle.std.proofs.Common.{subst, sym, inl, inr}
use Rattle.row_cells.specs.declared.schemas.Field.{Field}
use Rattle.row_cells.specs.Each.{Each}
use Rattle.row_cells.specs.Joining.{IsIn, FieldsAgree}
use Rattle.probe_rows.specs.Agreed.{AgreesWith, AreAgreed}

each_in : (P : Field → Type 0) (fields : List Field) (f : Field) → Each P fields → IsIn f fields → P f
each_in P [] f all is = absurd is
each_in P (g ∷ gs) f all is = elim is [ inl same ↦ subst P (sym same) all.0 | inr later ↦ each_in P gs f all.1 later ]

pub agree-of : (first second : List Field) → AreAgreed second first → FieldsAgree first second
agree-of first second all f g f_in g_in = each_in (λ g. f.path ≡ g.path → f ≡ g) second g (each_in (AgreesWith second) first f all f_in) g_in
