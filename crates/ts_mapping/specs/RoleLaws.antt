-- What tests of types and roles tell.
use Rattle.std.specs.Prelude.{◌≡◌, true}
use Rattle.std.proofs.Common.{refl}
use Rattle.row_cells.specs.declared.schemas.FieldType.{FieldType}
use Rattle.row_cells.specs.declared.schemas.FieldType.TheVariants.{Date, Keyword, Long, Integer, Short, Byte, Boolean, Aggregate}
use Rattle.row_cells.specs.declared.schemas.Role.{Role}
use Rattle.row_cells.specs.declared.schemas.Role.TheVariants.{Time, Dimension, Gauge, Counter, Label}
use Rattle.ts_mapping.specs.Fields.{is_dimension_role}
use Rattle.ts_mapping.specs.Roles.{is_aggregate, is_date}

pub date_is : (kind : FieldType) → is_date kind ≡ true → kind ≡ Date
date_is Date is = refl
date_is Keyword is = cc
date_is Long is = cc
date_is Integer is = cc
date_is Short is = cc
date_is Byte is = cc
date_is Boolean is = cc
date_is Aggregate is = cc

pub aggregate_is : (kind : FieldType) → is_aggregate kind ≡ true → kind ≡ Aggregate
aggregate_is Date is = cc
aggregate_is Keyword is = cc
aggregate_is Long is = cc
aggregate_is Integer is = cc
aggregate_is Short is = cc
aggregate_is Byte is = cc
aggregate_is Boolean is = cc
aggregate_is Aggregate is = refl

pub dimension_is : (role : Role) → is_dimension_role role ≡ true → role ≡ Dimension
dimension_is Time is = cc
dimension_is Dimension is = refl
dimension_is Gauge is = cc
dimension_is Counter is = cc
dimension_is Label is = cc
