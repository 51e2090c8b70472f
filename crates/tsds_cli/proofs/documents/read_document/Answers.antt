use Rattle.std.proofs.Common.{◌≡◌, Err, subst, sym, ap}
use Rattle.std.specs.Prelude.{IfOk, option_and_then}
use Rattle.tsds_cli.specs.Documents.{document_of, tree_document}
use Rattle.tsds_cli.proofs.documents.read_document.Goals as goal

pub returns-in-Ok : goal.returns-in-Ok
unfolding document_of
returns-in-Ok c = subst (λ d. IfOk c.tree_document.result (λ found. found ≡ d)) (sym (ap (option_and_then tree_document) c.in-Ok.ensures.ok)) c.tree_document.ensures

pub returns-in-Err-Bad : goal.returns-in-Err-Bad
unfolding document_of
returns-in-Err-Bad c = sym (ap (option_and_then tree_document) (c.in-Err-Bad.ensures.bad (ap Err c.in-Err-Bad.field-0-is)))
