-- Replies by induction, and their folds at each kind.
use Rattle.std.proofs.Common.{◌≡◌, ℕ, ℤ, Bool, List, [], ◌∷◌, map, sym, subst}
use Rattle.reply_json.specs.declared.out.Member.{Member, Member-F, out-Member, roll-Member}
use Rattle.reply_json.specs.declared.out.Out.{Out, Out-F, ind-Out, map-Out, roll-Out, Null, Flag, Num, Word, List as list, Object}
use Rattle.reply_json.specs.declared.out.Out.TheViews.{rolls-Null, rolls-Flag, rolls-Num, rolls-Word, rolls-List, rolls-Object}

abbrev pub value_of : Member → Out
value_of m = (out-Member m).value

abbrev pub name_of : Member → List ℕ
name_of m = (out-Member m).name

abbrev pub AllOf : (Out → Type 0) → List Out → Type 0
AllOf P [] = Unit {0}
AllOf P (o ∷ os) = P o × AllOf P os

abbrev pub AllValues : (Out → Type 0) → List Member → Type 0
AllValues P [] = Unit {0}
AllValues P (m ∷ ms) = P (value_of m) × AllValues P ms

pub record IsShown (P : Out → Type 0) : Type 0 where
  pub at_null : P Null
  pub at_flag : (b : Bool) → P (Flag b)
  pub at_number : (z : ℤ) → P (Num z)
  pub at_word : (w : List ℕ) → P (Word w)
  pub at_list : (os : List Out) → AllOf P os → P (list os)
  pub at_object : (ms : List Member) → AllValues P ms → P (Object ms)

abbrev Held : (Out → Type 0) → Type 0
Held P = (o : Out) × P o

abbrev HeldMember : (Out → Type 0) → Type 0
HeldMember P = (m : Member) × P (value_of m)

all_of : (P : Out → Type 0) (es : List (Held P)) → AllOf P (map (λ e. e.0) es)
all_of P [] = tt
all_of P (e ∷ es) = (e.1, all_of P es)

all_values : (P : Out → Type 0) (es : List (HeldMember P)) → AllValues P (map (λ e. e.0) es)
all_values P [] = tt
all_values P (e ∷ es) = (e.1, all_values P es)

-- what holds at each kind of a reply where it holds of its parts, holds of all
pub by_kinds : (P : Out → Type 0) → IsShown P → (o : Out) → P o
by_kinds P shown = ind-Out P (λ m. P (value_of m)) step member_step
  where
    at : (y : Out-F (Held P) (HeldMember P)) → P (roll-Out (map-Out (Held P) (HeldMember P) Out Member (λ e. e.0) (λ e. e.0) y))
    at Out-F.Null = subst P (sym rolls-Null) shown.at_null
    at (Out-F.Flag b) = subst P (sym (rolls-Flag b)) (shown.at_flag b)
    at (Out-F.Num z) = subst P (sym (rolls-Num z)) (shown.at_number z)
    at (Out-F.Word w) = subst P (sym (rolls-Word w)) (shown.at_word w)
    at (Out-F.List es) = subst P (sym (rolls-List (map (λ e. e.0) es))) (shown.at_list (map (λ e. e.0) es) (all_of P es))
    at (Out-F.Object es) = subst P (sym (rolls-Object (map (λ e. e.0) es))) (shown.at_object (map (λ e. e.0) es) (all_values P es))

    step : (x : Out-F Out Member) (y : Out-F (Held P) (HeldMember P)) → map-Out (Held P) (HeldMember P) Out Member (λ e. e.0) (λ e. e.0) y ≡ x → P (roll-Out x)
    step x y is = subst (λ x. P (roll-Out x)) is (at y)

    member_step : (x : Member-F Out Member) (y : Member-F (Held P) (HeldMember P)) → record { name = y.name; value = y.value.0 } ≡ x → P (value_of (roll-Member x))
    member_step x y is = subst (λ x. P (value_of (roll-Member x))) is y.value.1
