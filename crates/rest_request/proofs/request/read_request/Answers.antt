use Rattle.std.proofs.Common.{◌≡◌, ◌≢◌, IfErr, Err, sym, subst, ◌∙◌, rules}
use Rattle.rest_request.specs.AskedLaws.{asked_so}
use Rattle.rest_request.specs.Message.{seen}
use Rattle.rest_request.specs.TableLaws.{by_table}
use Rattle.rest_request.specs.declared.request.RequestError.TheVariants.{NoMemory}
use Rattle.rest_request.proofs.request.read_request.Goals as goal

pub returns-clause-request : goal.returns-clause-request
returns-clause-request c = by_table c.args.method.now c.args.target.now c.args.body.now ∙ c.in_ok-request.ensures.request

pub returns-clause-asked : goal.returns-clause-asked
returns-clause-asked c = λ short. asked_so c.args.method.now c.args.target.now c.args.body.now (seen c.in_ok-request.request) (returns-clause-request c) short

pub returns-in_err-request-clause-refused : goal.returns-in_err-request-clause-refused
returns-in_err-request-clause-refused c =
    subst (λ r. IfErr c.from_residual.result (λ e. e ≢ NoMemory → r ≡ Err e)) (sym (by_table c.args.method.now c.args.target.now c.args.body.now)) (search rules)
