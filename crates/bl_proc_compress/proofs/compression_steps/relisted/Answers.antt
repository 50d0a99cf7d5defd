use Rattle.std.proofs.Common.{◌≡◌, None, Some, sym, ◌∙◌, inr}
use Rattle.bl_proc_compress.proofs.Looks.{look_is}
use Rattle.bl_proc_compress.proofs.compression_steps.relisted.Goals as goal

pub returns-in-Some : goal.returns-in-Some
returns-in-Some c = inr (
  c.without-page.result,
  c.without-page.ensures,
  λ none.
      let listed : c.listed.result ≡ None = c.listed.ensures ∙ look_is c.without-page.result c.args.new ∙ none in
      let both : None ≡ Some _ = sym listed ∙ c.in-Some.is in
      absurd (let z = both in cc),
)

pub returns : goal.returns
returns c =
    let absent = sym (look_is c.without-page.result c.args.new) ∙ (sym c.listed.ensures ∙ c.in_default.is) in
    (c.without-page.result, c.without-page.ensures, c.in-Fits.ensures, absent)
