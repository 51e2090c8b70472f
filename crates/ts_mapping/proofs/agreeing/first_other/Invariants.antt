use Rattle.std.proofs.Common.{◌≡◌, drop}
use Rattle.row_cells.specs.Fitting.{FieldsAscend}
use Rattle.ts_mapping.specs.Agreeing.{other_path}
use Rattle.ts_mapping.proofs.agreeing.first_other.Given as goal

abbrev pub invariant-loop-field : goal.invariant-loop-field
invariant-loop-field l = record {
  rest : other_path l.first l.initial.second ≡ other_path (drop l.field-index l.first) l.second;
  first_ascends : FieldsAscend (drop l.field-index l.first);
  second_ascends : FieldsAscend l.second;
}
