use Rattle.std.proofs.Common.{◌≡◌, Bool, List, ℕ, string_bytes, sym, subst}
use Rattle.bl_cli_commands.specs.Checks.{IsVerdict}
use Rattle.bl_cli_commands.proofs.check.check_image.Goals as goal

pub returns-clause-left : goal.returns-clause-left
returns-clause-left g c =
    let sound : Bool = c.in_ok-sound.sound in
    let bytes : List ℕ = c.in_ok-bytes.bytes.items in
    let line : List ℕ = c.as_bytes.result.now in
    let of_slice : IsVerdict sound bytes (string_bytes c.in_ok-sound.line) =
    subst (λ (l : List ℕ). IsVerdict sound l (string_bytes c.in_ok-sound.line)) c.as_slice.ensures.value c.in_ok-sound.ensures.line in
    let is : IsVerdict sound bytes line = subst (λ (l : List ℕ). IsVerdict sound bytes l) (sym c.as_bytes.ensures.value) of_slice in
    (line, c.in-Err.ensures.err, λ same. (sound, bytes, c.in_ok-bytes.ensures.ok.0, is))
