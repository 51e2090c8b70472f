-- How the cells of a field are kept in columns, by the field's type and role.
use Rattle.std.specs.Prelude.{ℕ, Bool, true, false, List, [], ◌∷◌, ◌+◌, map}
use Rattle.row_cells.specs.declared.schemas.FieldType.{FieldType}
use Rattle.row_cells.specs.declared.schemas.FieldType.TheVariants.{Keyword, Boolean, Aggregate}
use Rattle.row_cells.specs.declared.schemas.Role.{Role}
use Rattle.row_cells.specs.declared.schemas.Role.TheVariants.{Time, Dimension, Gauge, Counter, Label}
use Rattle.row_cells.specs.declared.schemas.Schema.{Schema}
use Rattle.index_segment.specs.declared.forms.Form.{Form}
use Rattle.index_segment.specs.declared.forms.Form.TheVariants.{Bare, Whole, Parts, Rise, Numbers, Flags, Words}

-- a folded gauge has parts, and so has an aggregate
abbrev pub gauge_form : Bool → FieldType → Form
gauge_form true kind = Parts
gauge_form false Aggregate = Parts
gauge_form false kind = Whole

-- a counter has its rise where the schema is folded and rises, and else a single number
abbrev pub counter_form : Bool → Bool → Form
counter_form true true = Rise
counter_form true false = Whole
counter_form false rises = Whole

abbrev pub label_form : FieldType → Form
label_form Keyword = Words
label_form Boolean = Flags
label_form kind = Numbers

-- the form of a field, by whether the schema is folded, and whether it rises
abbrev pub form_of : Bool → Bool → FieldType → Role → Form
form_of folded rises kind Time = Bare
form_of folded rises kind Dimension = Bare
form_of folded rises kind Gauge = gauge_form folded kind
form_of folded rises kind Counter = counter_form folded rises
form_of folded rises kind Label = label_form kind

-- how many columns a field has
abbrev pub width_of : Form → ℕ
width_of Bare = 0
width_of Rise = 4
width_of form = 1

abbrev pub forms_of : Schema → List Form
forms_of schema = map (λ f. form_of schema.folded schema.rises f.kind f.role) schema.fields

-- how many columns fields of these forms have
abbrev pub widths : List Form → ℕ
widths [] = 0
widths (form ∷ forms) = width_of form + widths forms
