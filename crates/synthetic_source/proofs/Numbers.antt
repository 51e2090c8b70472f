-- Whole numbers and parts as replies.
use Rattle.std.proofs.Common.{◌≡◌, ℤ, pos, negsuc, List, [], ◌∷◌, ◌++◌, codes, refl, ap, ◌∙◌}
use Rattle.fold_law.specs.declared.measures.Parts.{Parts}
use Rattle.reply_json.specs.declared.out.Member.{Member}
use Rattle.reply_json.specs.declared.out.Out.{Out, Num, Object}
use Rattle.reply_json.specs.Trees as tree
use Rattle.serde_json.specs.Data.{number, member, no_members}
use Rattle.serde_json.specs.Find.{of_integer}
use Rattle.synthetic_source.specs.Normal.{parts_data}
use Rattle.synthetic_source.specs.Replies.{out_of_number, out_of, out_members}

pub number_shown : (v : ℤ) → Num v ≡ out_of_number (of_integer v)
number_shown (pos n) = refl
number_shown (negsuc n) = refl

pub parts_shown : (p : Parts) (r x y : Out) (a b m : List Member) → r ≡ Object m → m ≡ b ++ tree.member (codes "value_count") y ∷ [] → b ≡ a ++ tree.member (codes "sum") x ∷ []
    → a ≡ out_members (member (codes "max") (number (of_integer p.max)) (member (codes "min") (number (of_integer p.min)) no_members))
    → x ≡ out_of (number (of_integer p.sum)) → y ≡ out_of (number (of_integer p.count)) → r ≡ out_of (parts_data p)
parts_shown p r x y a b m is_object is_m is_b is_a is_x is_y =
    is_object ∙ ap Object (is_m ∙ (λ i. (is_b i) ++ tree.member (codes "value_count") (is_y i) ∷ []) ∙ (λ i. ((is_a i) ++ tree.member (codes "sum") (is_x i) ∷ []) ++ tree.member (codes "value_count") (out_of (number (of_integer p.count))) ∷ []))
