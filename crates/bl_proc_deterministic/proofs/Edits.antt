-- A change goes on, and in one way.
use Rattle.std.proofs.Common.{ℕ, ◌≡◌, ◌<◌, ◌≤◌, None, length, refl, sym, ap, ◌∙◌, subst, inl, inr, arith}
use Rattle.std.specs.Prelude.{IsSome}
use Rattle.std.specs.Coded.{le_prop}
use Rattle.std.proofs.Props.{props}
use Rattle.std.proofs.lemmas.Bool.{cases_lt, false≢true}
use mathlib.Core.HLevel.{is_prop→PathP}
use Rattle.bl_page.specs.declared.page.Page.{Page}
use Rattle.bl_page.specs.Pages.{Covers}
use Rattle.bl_page.specs.Pairs.{IsChild}
use Rattle.bl_model.specs.Rows.{map_of}
use Rattle.bl_rearrange.specs.declared.fitted.Fitted.TheVariants.{Fits}
use Rattle.bl_rearrange.specs.Rearranged.{pairs_of, MayHold, MayLose, IsFitted, IsWithout, IsWithValue}
use Rattle.bl_proc_steps.specs.Props.{Covers-prop, MayHold-prop}
use Rattle.bl_proc_steps.specs.declared.acts.Seen.{Seen}
use Rattle.bl_proc_steps.specs.declared.acts.Seen.TheVariants as seen
use Rattle.bl_proc_steps.specs.declared.edit.Full.{Full}
use Rattle.bl_proc_steps.specs.declared.edit.Outcome.TheVariants as outcome
use Rattle.bl_proc_steps.specs.declared.edit.Edit.{Edit}
use Rattle.bl_proc_steps.specs.declared.edit.Edit.TheVariants.{Putting, Taking, PuttingNew, PuttingOld, OpeningNew, Opening}
use Rattle.bl_proc_steps.specs.declared.edit.Edited.{Edited}
use Rattle.bl_proc_steps.specs.declared.edit.Edited.TheVariants.{On, Over}
use Rattle.bl_proc_steps.specs.Given.{Gives}
use Rattle.bl_proc_steps.specs.Edits.{edit_next, edit_needs, EntersPair, DropsPair, GivesValue, Changes}
use Rattle.bl_proc_deterministic.specs.One.{One}
use Rattle.bl_proc_deterministic.proofs.Pages.{fits_one, fits_some, split_one, split_some, without_one, without_some, value_one, value_some}
use Rattle.bl_proc_deterministic.proofs.WayCases.{EditCase, edit_case}

full_same : (a b : Full) → a.at ≡ b.at → a.key ≡ b.key → a.word ≡ b.word → a.page ≡ b.page → a ≡ b
full_same a b at key word page = λ i. record {
  at = at i;
  key = key i;
  word = word i;
  page = page i;
  covers = is_prop→PathP (λ i. Covers (page i) (key i)) (λ i. Covers-prop (page i) (key i)) a.covers b.covers i;
  absent = is_prop→PathP (λ i. map_of (pairs_of (page i)) (key i) ≡ None) (λ i. hlevel props) a.absent b.absent i;
  fits = is_prop→PathP (λ i. MayHold (page i) (word i)) (λ i. MayHold-prop (page i) (word i)) a.fits b.fits i;
  full = is_prop→PathP (λ i. 14 ≤ length (pairs_of (page i))) (λ i. le_prop) a.full b.full i;
}

-- A pair is to enter a page.
module _ (x : ℕ) (c : Page) (key word : ℕ) (in_it : Covers c key) (absent : map_of (pairs_of c) key ≡ None) (may : MayHold c word) where
  put_only : (p : Page) → length (pairs_of c) < 14 → IsFitted c key word 0 (Fits p) → (other : Edit) → EntersPair x c key word other → other ≡ Putting x p
  put_only p room f (Putting u v) t = (let e = fits_one c key word 0 v p t.1 f in λ i. Putting (t.0 i) (e i))
  put_only p room f (Taking u) t = (let full : 14 ≤ length (pairs_of c) = subst (λ (z : Page). 14 ≤ length (pairs_of z)) t.3 u.full in absurd (omega arith))
  put_only p room f old t = absurd t

  take_only : (f : Full) → 14 ≤ length (pairs_of c) → f.at ≡ x → f.key ≡ key → f.word ≡ word → f.page ≡ c → (other : Edit) → EntersPair x c key word other → other ≡ Taking f
  take_only f full e1 e2 e3 e4 (Putting u v) t = (let room = t.1.0 in absurd (omega arith))
  take_only f full e1 e2 e3 e4 (Taking u) t = ap Taking (full_same u f (t.0 ∙ sym e1) (t.1 ∙ sym e2) (t.2 ∙ sym e3) (t.3 ∙ sym e4))
  take_only f full e1 e2 e3 e4 old t = absurd t

  pub enter_one : One (EntersPair x c key word)
  enter_one = elim (cases_lt (length (pairs_of c)) 14) [
    | inl room ↦ (let p = fits_some c key word 0 in_it absent may room in record { new = Putting x p.0; goes = (refl, p.1); only = put_only p.0 room p.1 })
    | inr full ↦ (let f : Full = record { at = x; key = key; word = word; page = c; covers = in_it; absent = absent; fits = may; full = full } in record { new = Taking f; goes = (refl, refl, refl, refl); only = take_only f full refl refl refl refl })
  ]

-- A pair is to leave a page.
module _ (x : ℕ) (c : Page) (key : ℕ) (in_it : Covers c key) (may : MayLose c key) where
  drop_only : (p : Page) → IsWithout c key p → (other : Edit) → DropsPair x c key other → other ≡ Putting x p
  drop_only p f (Putting u v) t = (let e = without_one c key v p t.1 f in λ i. Putting (t.0 i) (e i))
  drop_only p f old t = absurd t

  pub drop_one : One (DropsPair x c key)
  drop_one = (let p = without_some c key in_it may in record { new = Putting x p.0; goes = (refl, p.1); only = drop_only p.0 p.1 })

-- A key that a page lists is to have another value.
module _ (x : ℕ) (c : Page) (key value : ℕ) (listed : IsSome (map_of (pairs_of c) key)) (may : MayHold c value) where
  value_only : (p : Page) → IsWithValue c key value p → (other : Edit) → GivesValue x c key value other → other ≡ Putting x p
  value_only p f (Putting u v) t = (let e = value_one c key value v p t.1 f in λ i. Putting (t.0 i) (e i))
  value_only p f old t = absurd t

  pub replace_one : One (GivesValue x c key value)
  replace_one = (let p = value_some c key value listed may in record { new = Putting x p.0; goes = (refl, p.1); only = value_only p.0 p.1 })

-- what two turns lead to where the same was seen
edit_same : {c : Edit} {what : Seen} {a b : Edited} → EditCase c what a → EditCase c what b → b ≡ a
edit_same (EditCase.Put x page a s) (EditCase.Put _ _ b t) = ap On (t ∙ sym s)
edit_same (EditCase.PutRefused x page a s) (EditCase.PutRefused _ _ b t) = ap On (t ∙ sym s)
edit_same (EditCase.Took full y p s) (EditCase.Took _ _ u t) =
    let e = split_one full.page full.key full.word y u.left u.right u.separator p.left p.right p.separator t.2 s.2 in
    λ i. On (PuttingNew (record { at = (t.0 ∙ sym s.0) i; new = (t.1 ∙ sym s.1) i; left = e.left_one i; right = e.right_one i; separator = e.separator_one i }))
edit_same (EditCase.TakeRefused full a s) (EditCase.TakeRefused _ b t) = ap On (t ∙ sym s)
edit_same (EditCase.PutNew p a s) (EditCase.PutNew _ b t) = ap On (t ∙ sym s)
edit_same (EditCase.PutOld p a s) (EditCase.PutOld _ b t) = ap On (t ∙ sym s)
edit_same (EditCase.OpenedNew x y separator a s) (EditCase.OpenedNew _ _ _ b t) = ap On (t ∙ sym s)
edit_same (EditCase.Opened x o a s) (EditCase.Opened _ _ b t) = ap Over (t ∙ sym s)

changed : (c : Edit) (what : Seen) (new : Edited) → Changes c what new → One (Changes c what)
changed c what new goes = record { new = new; goes = goes; only = λ other t. edit_same (edit_case c what new goes) (edit_case c what other t) }

taken : (full : Full) (y : ℕ) → IsChild y → One (Changes (Taking full) (seen.Took y))
taken full y child =
    let s = split_some full.page full.key full.word y full.covers full.absent full.fits child full.full in
    changed (Taking full) (seen.Took y) (On (PuttingNew (record { at = full.at; new = y; left = s.left; right = s.right; separator = s.separator }))) (refl, refl, s.is)

pub edit_one : (c : Edit) (what : Seen) → Gives (edit_next c) (edit_needs c) what → One (Changes c what)
edit_one (Putting u v) seen.Done g = changed (Putting u v) seen.Done (On (Opening u outcome.Edited)) refl
edit_one (Putting u v) seen.Refused g = changed (Putting u v) seen.Refused (On (Opening u outcome.Refused)) refl
edit_one (Taking u) (seen.Took y) g = taken u y g
edit_one (Taking u) seen.Refused g = changed (Taking u) seen.Refused (On (Opening u.at outcome.Refused)) refl
edit_one (PuttingNew u) seen.Done g = changed (PuttingNew u) seen.Done (On (PuttingOld u)) refl
edit_one (PuttingNew u) seen.Refused g = absurd (false≢true g)
edit_one (PuttingOld u) seen.Done g = changed (PuttingOld u) seen.Done (On (OpeningNew u.at u.new u.separator)) refl
edit_one (PuttingOld u) seen.Refused g = absurd (false≢true g)
edit_one (OpeningNew u v s) seen.Done g = changed (OpeningNew u v s) seen.Done (On (Opening u (outcome.SplitAt s))) refl
edit_one (Opening u v) seen.Done g = changed (Opening u v) seen.Done (Over v) refl
edit_one old what g = absurd g
