use Rattle.std.proofs.Common.{◌∙◌, ap}
use Rattle.std.specs.Option.{is_some}
use Rattle.synthetic_source.specs.Gathered.{paths_of}
use Rattle.synthetic_source.proofs.Near.{is_there}
use Rattle.synthetic_source.proofs.Search.{fields_rise}
use Rattle.synthetic_source.proofs.strays.has_field.Goals as goal

pub returns : goal.returns
returns c = c.is_some.ensures ∙ (ap is_some c.search_field.ensures ∙ is_there c.args.path.now (paths_of c.args.fields.now) (fields_rise c.args.fields.now c.requires))
