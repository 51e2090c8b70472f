use Rattle.std.proofs.Common.{ap, ◌∙◌}
use Rattle.std.proofs.lemmas.Result.{on_ok_weaker}
use Rattle.serde_json.specs.View.{view}
use Rattle.ts_mapping.specs.Least.{least_with}
use Rattle.ts_mapping.specs.Settings.{settings_of}
use Rattle.ts_mapping.specs.Walks.{sent_faults}
use Rattle.ts_mapping.proofs.Known.{faults_of_sent}
use Rattle.ts_mapping.proofs.settings.check_settings.Goals as goal

pub returns : goal.returns
returns c =
    let all = settings_of (view c.args.body.now) in
    on_ok_weaker c.check_sent.result (λ told. told ∙ ap (least_with c.args.least.now) (ap (sent_faults all) c.requires ∙ faults_of_sent all)) c.check_sent.ensures
