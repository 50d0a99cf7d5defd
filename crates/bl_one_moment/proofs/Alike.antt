-- Two runs of one trail lead to states that differ in times alone.
use Rattle.std.proofs.Common.{ℕ, ◌≡◌, [], ◌∷◌, ap, sym, refl, ◌∙◌, subst}
use mathlib.Core.Logic.{dite}
use native.Mathlib.Decide.{ℕ_discrete}
use Rattle.bl_model.specs.Map.{SameMap}
use Rattle.bl_model.specs.declared.operation.Reply.{Reply}
use Rattle.bl_page.specs.declared.page.Page.{Page}
use Rattle.bl_page.specs.Machine.{Name, Owner, State, Act, IsAt, Owns, Changes}
use Rattle.bl_page.specs.Machine.Owner.{Released, Held, Retired}
use Rattle.bl_claims.specs.Trails.{Trail, LeadsOn}

-- the same, but for the time at which it was retired
abbrev pub LikeOwner : Owner → Owner → Type 0
LikeOwner Released o = o ≡ Released
LikeOwner Owner.Open o = o ≡ Owner.Open
LikeOwner (Held p) o = o ≡ Held p
LikeOwner (Retired t) o = (u : ℕ) × (o ≡ Retired u)

pub like_self : (o : Owner) → LikeOwner o o
like_self Released = refl
like_self Owner.Open = refl
like_self (Held p) = refl
like_self (Retired t) = (t, refl)

pub record Alike (s s' : State Page) : Type 0 where
  pub contents : SameMap s.contents s'.contents
  pub owners : (x : ℕ) → LikeOwner (s.owner x) (s'.owner x)

pub alike_self : (s : State Page) → Alike s s
alike_self s = record { contents = λ x. refl; owners = λ x. like_self (s.owner x) }

like_both : (o o' q q' : Owner) → q ≡ o → q' ≡ o' → LikeOwner o o' → LikeOwner q q'
like_both o o' q q' e e' k = subst (λ (z : Owner × Owner). LikeOwner z.0 z.1) (λ i. (sym e i, sym e' i)) k

stays : (s s' t t' : State Page) → Alike s s' → SameMap s.contents t.contents → SameMap s'.contents t'.contents → SameMap s.owner t.owner → SameMap s'.owner t'.owner → Alike t t'
stays s s' t t' a c c' o o' = record {
  contents = λ k. c' k ∙ (a.contents k ∙ sym (c k));
  owners = λ k. like_both (s.owner k) (s'.owner k) (t.owner k) (t'.owner k) (o k) (o' k) (a.owners k);
}

owned : (s s' t t' : State Page) (x : ℕ) (q q' : Owner) → Alike s s' → LikeOwner q q' → Owns s x q t → Owns s' x q' t' → Alike t t'
owned s s' t t' x q q' a l o o' = record {
  contents = λ k. o'.0 k ∙ (a.contents k ∙ sym (o.0 k));
  owners = λ k. dite (ℕ_discrete k x)
      (λ e. like_both q q' (t.owner k) (t'.owner k) (ap t.owner e ∙ o.1.at) (ap t'.owner e ∙ o'.1.at) l)
      (λ n. like_both (s.owner k) (s'.owner k) (t.owner k) (t'.owner k) (o.1.others k n) (o'.1.others k n) (a.owners k));
}

put : (s s' t t' : State Page) (x : ℕ) (c : Page) → Alike s s' → IsAt x c s.contents t.contents → IsAt x c s'.contents t'.contents → SameMap s.owner t.owner → SameMap s'.owner t'.owner → Alike t t'
put s s' t t' x c a i i' o o' = record {
  contents = λ k. dite (ℕ_discrete k x)
      (λ e. ap t'.contents e ∙ (i'.at ∙ sym (ap t.contents e ∙ i.at)))
      (λ n. i'.others k n ∙ (a.contents k ∙ sym (i.others k n)));
  owners = λ k. like_both (s.owner k) (s'.owner k) (t.owner k) (t'.owner k) (o k) (o' k) (a.owners k);
}

pub alike_step : (p : Name) (a : Act Page Reply) (s s' t t' : State Page) → Alike s s' → Changes s p a t → Changes s' p a t' → Alike t t'
alike_step p Act.Begin s s' t t' k c c' = stays s s' t t' k c.0 c'.0 c.1 c'.1
alike_step p (Act.End answer) s s' t t' k c c' = stays s s' t t' k c.0 c'.0 c.1 c'.1
alike_step p (Act.Get x) s s' t t' k c c' = stays s s' t t' k c.0 c'.0 c.1 c'.1
alike_step p (Act.Put x page) s s' t t' k c c' = put s s' t t' x page k c.0 c'.0 c.1 c'.1
alike_step p (Act.Take x) s s' t t' k c c' = owned s s' t t' x (Held p) (Held p) k refl c c'
alike_step p (Act.Latch x) s s' t t' k c c' = owned s s' t t' x (Held p) (Held p) k refl c c'
alike_step p (Act.Open x) s s' t t' k c c' = owned s s' t t' x Owner.Open Owner.Open k refl c c'
alike_step p (Act.Retire x) s s' t t' k c c' = owned s s' t t' x (Retired c.0) (Retired c'.0) k (c'.0, refl) c.3 c'.3
alike_step p (Act.Look l) s s' t t' k c c' = stays s s' t t' k c.0 c'.0 c.1 c'.1
alike_step p (Act.Release x) s s' t t' k c c' = owned s s' t t' x Released Released k refl c c'
alike_step p (Act.Miss m) s s' t t' k c c' = stays s s' t t' k c.0 c'.0 c.1 c'.1

pub alike_runs : (trail : Trail) (s s' t t' : State Page) → Alike s s' → LeadsOn s trail t → LeadsOn s' trail t' → Alike t t'
alike_runs [] s s' t t' k l l' = subst (λ (z : State Page × State Page). Alike z.0 z.1) (λ i. (sym l i, sym l' i)) k
alike_runs (m ∷ ms) s s' t t' k l l' = alike_runs ms l.0 l'.0 t t' (alike_step m.event.process m.event.act s s' l.0 l'.0 k l.1.changes l'.1.changes) l.3 l'.3
