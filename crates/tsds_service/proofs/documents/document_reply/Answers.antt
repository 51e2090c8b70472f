use Rattle.std.proofs.Common.{refl}
use Rattle.tsds_service.proofs.documents.document_reply.Goals as goal

pub returns : goal.returns
returns c = rw (c.object.ensures, c.in_ok-members.ensures, c.in_ok-with.ensures, c.in_ok-id_members.ensures, c.in_ok-source.ensures) refl
