-- Lines that are dealt one after another.
use Rattle.std.proofs.Common.{◌≡◌, ℕ, ◌+◌, ◌<◌, ◌≤◌, Option, None, List, [], ◌∷◌, ◌++◌, length, take, get_or, sym, ap, ◌∙◌, subst, arith}
use Rattle.std.specs.List.{AllZip}
use Rattle.std.proofs.lemmas.List.{take_all, take_more}
use Rattle.bl_serve_lines.specs.declared.request.Request.{Request}
use Rattle.bl_serve_worker.proofs.Lines.{zip_length}
use Rattle.bl_serve_lines.proofs.Known.{zip_append}
use Rattle.bl_serve.specs.Dealing.{AreDealt, IsOn, spread}

abbrev IsSpread : ℕ → ℕ → Option Request → Type 0
IsSpread shares share asked = (share < shares) × ((key : ℕ) → IsOn key asked → share ≡ spread key shares)

-- so many lines have their shares
abbrev pub DealsUpto : ℕ → ℕ → List (Option Request) → List ℕ → Type 0
DealsUpto shares place lines deals = AllZip (IsSpread shares) deals (take place lines)

pub deals_more : (shares place share : ℕ) (lines : List (Option Request)) (deals more : List ℕ) (asked : Option Request) → place < length lines → DealsUpto shares place lines deals → asked ≡ get_or lines place None → share < shares → ((key : ℕ) → IsOn key asked → share ≡ spread key shares) → more ≡ deals ++ share ∷ []
    → DealsUpto shares (place + 1) lines more
deals_more shares place share lines deals more asked low so_far at few same is =
    subst (λ (z : List ℕ × List (Option Request)). AllZip (IsSpread shares) z.0 z.1) (λ i. (sym is i, sym (take_more lines place None low ∙ ap (λ (z : Option Request). take place lines ++ z ∷ []) (sym at)) i))
    (zip_append (IsSpread shares) deals (share ∷ []) (take place lines) (asked ∷ []) so_far ((few, same), tt))

pub deals_all : (shares place : ℕ) (lines : List (Option Request)) (deals : List ℕ) → 1 ≤ shares → length lines ≤ place → DealsUpto shares place lines deals → AreDealt shares lines deals
deals_all shares place lines deals some end so_far = record {
  share_of = λ key. spread key shares;
  low = λ key. omega (arith, some);
  each = subst (AllZip (IsSpread shares) deals) (take_all place lines end) so_far;
}

pub deals_long : (shares place : ℕ) (lines : List (Option Request)) (deals : List ℕ) → length lines ≤ place → DealsUpto shares place lines deals → length deals ≡ length lines
deals_long shares place lines deals end so_far = sym (zip_length (IsSpread shares) deals (take place lines) so_far) ∙ ap length (take_all place lines end)
