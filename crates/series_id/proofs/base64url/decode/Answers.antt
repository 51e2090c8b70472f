use Rattle.std.proofs.Common.{◌∙◌, sym, refl}
use Rattle.series_id.specs.ByteLaws.{bytes_at}
use Rattle.series_id.specs.Ids.{base64url}
use Rattle.series_id.specs.IdLaws.{same_bytes, no_error}
use Rattle.series_id.proofs.base64url.decode.Goals as goal

pub returns-in-Ok-clause-some : goal.returns-in-Ok-clause-some
unfolding base64url
returns-in-Ok-clause-some c = sym c.as_bytes.ensures.value ∙ c.in-Ok.ensures.exact (refl, refl)

pub returns-in-Ok-clause-back : goal.returns-in-Ok-clause-back
unfolding base64url
returns-in-Ok-clause-back c =
    λ bytes are same.
    same_bytes _ c.in-Ok.bytes.items bytes c.in-Ok.ensures.ok ((c.in-Ok.ensures.strict (refl, refl) bytes (bytes_at bytes are)).1 (c.as_bytes.ensures.value ∙ same))

pub returns-in-Err-DecodeError-clause-back : goal.returns-in-Err-DecodeError-clause-back
unfolding base64url
returns-in-Err-DecodeError-clause-back c =
    λ bytes are same.
    let failed = rw c.in-Err-DecodeError.field-0-is at c.in-Err-DecodeError.ensures.err in
    no_error _ c.in-Err-DecodeError.field-0-0 bytes failed ((c.in-Err-DecodeError.ensures.strict (refl, refl) bytes (bytes_at bytes are)).1 (c.as_bytes.ensures.value ∙ same))
