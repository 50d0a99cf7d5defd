-- All handles meet: the first learns of the others, and then they are told.
use Rattle.std.proofs.Common.{◌≡◌, ℕ, zero, suc, ◌+◌, ◌<◌, ◌≤◌, List, [], ◌∷◌, ◌++◌, length, take, drop, set, get_or, refl, sym, ap, ◌∙◌, subst, append_assoc, append-nil, arith, add-one}
use Rattle.std.specs.Prelude.{All, Option}
use Rattle.std.specs.List.{AllZip}
use Rattle.std.proofs.lemmas.List.Elements.{All-nil, All-push, All-weaker, AllZip-push, AllZip-get_or, length_all_zip}
use Rattle.std.proofs.lemmas.List.{take_more, take_all}
use Rattle.bl_page.specs.declared.page.Page.{Page}
use Rattle.bl_claims.specs.Trails.{Trail}
use Rattle.bl_claims.specs.Seeing.{IsLinearizable, own, GoesOnFrom}
use Rattle.bl_index.specs.declared.index.Index.{Index}
use Rattle.bl_index.specs.declared.index.Pass.{Pass}
use Rattle.bl_index.specs.Calls.{IsSamePass}
use Rattle.bl_index.specs.Meetings.{Learns, Hears}
use Rattle.bl_index.proofs.Taken.{same_of}
use Rattle.bl_map.specs.declared.handle.Handle.{Handle}
use Rattle.bl_map.specs.Handles.{IsSameHandle, KeepsHints, number_of_seat, seat_of, seen_by}
use Rattle.bl_map.specs.Meetings.{IsSeated, KeepsHandle, Comes, HasCome, LearnsAll, HaveAllMet}
use Rattle.bl_map.proofs.Elements.{take_set, next_is, drop_set, drop_one}

goes_on : (old mid new : Trail) → GoesOnFrom old mid → GoesOnFrom mid new → GoesOnFrom old new
goes_on old mid new a b = (a.0 ++ b.0, b.1 ∙ (ap (λ (z : Trail). z ++ b.0) a.1 ∙ append_assoc old a.0 b.0))

same_pass : (p q r : Pass) → IsSamePass p q → IsSamePass q r → IsSamePass p r
same_pass p q r a b = (b.0 ∙ a.0, b.1 ∙ a.1, b.2 ∙ a.2, b.3 ∙ a.3)

pub same_again : (p q r : Handle) → IsSameHandle p q → IsSameHandle q r → IsSameHandle p r
same_again p q r a b = (b.0 ∙ a.0, same_pass p.pass q.pass r.pass a.1 b.1)

same_self : (p : Handle) → IsSameHandle p p
same_self p = (refl, (refl, refl, refl, refl))

keeps_self : (p : Handle) → KeepsHandle p p
keeps_self p = (same_self p, refl, refl)

keeps_again : (p q r : Handle) → KeepsHandle p q → KeepsHandle q r → KeepsHandle p r
keeps_again p q r a b = (same_again p q r a.0 b.0, b.1 ∙ a.1, b.2 ∙ a.2)

keeps_all : (ps : List Handle) → AllZip KeepsHandle ps ps
keeps_all [] = tt
keeps_all (p ∷ ps) = (keeps_self p, keeps_all ps)

-- one element has changed
keeps_set : (ps qs : List Handle) (i : ℕ) (r d : Handle) → AllZip KeepsHandle ps qs → KeepsHandle (get_or qs i d) r → i < length qs → AllZip KeepsHandle ps (set qs i r)
keeps_set [] [] i r d h k low = tt
keeps_set [] (q ∷ qs) i r d h k low = absurd h
keeps_set (p ∷ ps) [] i r d h k low = absurd h
keeps_set (p ∷ ps) (q ∷ qs) zero r d h k low = (keeps_again p q r h.0 k, h.1)
keeps_set (p ∷ ps) (q ∷ qs) (suc i) r d h k low = (h.0, keeps_set ps qs i r d h.1 k (omega arith))

-- ---- of one index

pub seated_as : (index : Index) (old new : Handle) → IsSameHandle old new → IsSeated index old → IsSeated index new
seated_as index old new same of = same_of index old.pass new.pass same.1 of

pub seated_at : (index : Index) (ps qs : List Handle) (i : ℕ) (d : Handle) → All (IsSeated index) ps → AllZip KeepsHandle ps qs → i < length qs → IsSeated index (get_or qs i d)
seated_at index ps qs i d own kept low = let long = length_all_zip KeepsHandle ps qs kept in
    seated_as index (get_or ps i d) (get_or qs i d) (AllZip-get_or KeepsHandle ps qs i d d kept (omega arith)).0 (own i d (omega arith))

pub seated_all : (index : Index) (ps qs : List Handle) → All (IsSeated index) ps → AllZip KeepsHandle ps qs → All (IsSeated index) qs
seated_all index ps qs own kept i d low = seated_at index ps qs i d own kept low

-- ---- the first one learns

abbrev pub Knows : Handle → Handle → Type 0
Knows one p = GoesOnFrom (seen_by p) (seen_by one)

-- how far the first handle has come
pub record LearnsUpTo (first : List (Option Page)) (one one' : Handle) (others others' : List Handle) (i : ℕ) : Type 0 where
  pub same : IsSameHandle one one'
  pub keeps : KeepsHints one one'
  pub begins : GoesOnFrom (seen_by one) (seen_by one')
  pub none : own (number_of_seat one) (seen_by one') ≡ own (number_of_seat one) (seen_by one)
  pub may_be : IsLinearizable first (seen_by one) → IsLinearizable first (seen_by one')
  pub kept : AllZip KeepsHandle others others'
  pub known : All (Knows one') (take i others')

pub learns_none : (first : List (Option Page)) (one : Handle) (others : List Handle) → LearnsUpTo first one one others others 0
learns_none first one others = record {
  same = same_self one;
  keeps = refl;
  begins = ([], sym (append-nil (seen_by one)));
  none = refl;
  may_be = λ h. h;
  kept = keeps_all others;
  known = All-nil (Knows one);
}

pub learns_one : (first : List (Option Page)) (one mid new d other other' : Handle) (others now : List Handle) (i : ℕ) → LearnsUpTo first one mid others now i → i < length now → other ≡ get_or now i d
    → IsSameHandle mid new → KeepsHints mid new → KeepsHandle other other' → Learns (number_of_seat mid) (number_of_seat other) (seen_by mid) (seen_by other) (seen_by new) → IsLinearizable first (seen_by new)
    → LearnsUpTo first one new others (set now i other') (i + 1)
learns_one first one mid new d other other' others now i l low at same keeps kept learns seen = record {
  same = same_again one mid new l.same same;
  keeps = keeps ∙ l.keeps;
  begins = goes_on (seen_by one) (seen_by mid) (seen_by new) l.begins learns.begins;
  none = subst (λ (z : ℕ). own z (seen_by new) ≡ own z (seen_by mid)) l.same.1.2 learns.none ∙ l.none;
  may_be = λ h. seen;
  kept = keeps_set others now i other' d l.kept (subst (λ (z : Handle). KeepsHandle z other') at kept) low;
  known = subst (All (Knows new)) (sym (take_set now i other' low))
      (All-push (Knows new) (take i now) other' (All-weaker (Knows mid) (Knows new) (λ p k. goes_on (seen_by p) (seen_by mid) (seen_by new) k learns.begins) (take i now) l.known)
      (subst (λ (z : Trail). GoesOnFrom z (seen_by new)) (sym kept.2) learns.begins_theirs));
}

pub learns_all : (first : List (Option Page)) (one one' : Handle) (others others' : List Handle) (i : ℕ) → length others' ≤ i → LearnsUpTo first one one' others others' i → LearnsAll first one one' others others'
learns_all first one one' others others' i end l = record {
  same = l.same;
  keeps = l.keeps;
  begins = l.begins;
  none = l.none;
  may_be = l.may_be;
  kept = l.kept;
  known = subst (All (Knows one')) (take_all i others' end) l.known;
}

-- ---- the others are told

-- how many have been told
pub record TellsUpTo (one one' : Handle) (others others' : List Handle) (i : ℕ) : Type 0 where
  pub keeps : KeepsHandle one one'
  pub observed : AllZip (HasCome (seen_by one)) (take i others) (take i others')
  pub left : drop i others' ≡ drop i others

pub tells_none : (one : Handle) (others : List Handle) → TellsUpTo one one others others 0
tells_none one others = record { keeps = keeps_self one; observed = tt; left = refl }

pub tells_one : (one mid new d other other' : Handle) (others now : List Handle) (i : ℕ) → length now ≡ length others → TellsUpTo one mid others now i → i < length now → other ≡ get_or now i d
    → All (Knows one) others → KeepsHandle mid new → IsSameHandle other other' → KeepsHints other other' → Hears (number_of_seat other) (seen_by other) (seen_by mid) (seen_by other')
    → TellsUpTo one new others (set now i other') (i + 1)
tells_one one mid new d other other' others now i long l low at known kept same keeps hears =
    let was : other ≡ get_or others i d = at ∙ next_is others now i d l.left low in
    let at_one : seen_by other' ≡ seen_by one = hears.is ∙ l.keeps.2 in
    let come : Comes (seen_by one) (seat_of other) (seat_of other') = record {
      same = same.1;
      is = at_one;
      begins = subst (λ (z : Handle). GoesOnFrom (seen_by z) (seen_by one)) (sym was) (known i d (omega arith));
      none = ap (own (number_of_seat other)) (sym at_one) ∙ hears.none;
    } in record {
      keeps = keeps_again one mid new l.keeps kept;
      observed = subst (λ (z : List Handle). AllZip (HasCome (seen_by one)) z (take (i + 1) (set now i other'))) (sym (take_more others i d (omega arith) ∙ ap (λ (z : Handle). take i others ++ z ∷ []) (sym was)))
          (subst (λ (z : List Handle). AllZip (HasCome (seen_by one)) (take i others ++ other ∷ []) z) (sym (take_set now i other' low))
          (AllZip-push (HasCome (seen_by one)) (take i others) (take i now) other other' l.observed (same.0, keeps, come)));
      left = rw add-one (drop_set now i other' ∙ drop_one now others i l.left);
    }

pub tell_seated : (index : Index) (one mid d other : Handle) (others now : List Handle) (i : ℕ) → length now ≡ length others → TellsUpTo one mid others now i → i < length now → other ≡ get_or now i d → All (IsSeated index) others → IsSeated index one
    → IsSeated index other × IsSeated index mid
tell_seated index one mid d other others now i long l low at own of =
    let was : other ≡ get_or others i d = at ∙ next_is others now i d l.left low in
    (subst (IsSeated index) (sym was) (own i d (omega arith)), seated_as index one mid l.keeps.0 of)

-- what it knew is a beginning of what it is to be told
pub tell_begins : (one mid d other : Handle) (others now : List Handle) (i : ℕ) → length now ≡ length others → TellsUpTo one mid others now i → i < length now → other ≡ get_or now i d → All (Knows one) others → GoesOnFrom (seen_by other) (seen_by mid)
tell_begins one mid d other others now i long l low at known =
    let was : other ≡ get_or others i d = at ∙ next_is others now i d l.left low in
    subst (λ (z : Trail). GoesOnFrom (seen_by other) z) (sym l.keeps.2) (subst (λ (z : Handle). GoesOnFrom (seen_by z) (seen_by one)) (sym was) (known i d (omega arith)))

pub tells_all : (one one' : Handle) (others others' : List Handle) (i : ℕ) → length others' ≡ length others → length others' ≤ i → TellsUpTo one one' others others' i → AllZip (HasCome (seen_by one)) others others'
tells_all one one' others others' i long end l =
    subst (λ (z : List Handle). AllZip (HasCome (seen_by one)) z others') (take_all i others (omega arith)) (subst (λ (z : List Handle). AllZip (HasCome (seen_by one)) (take i others) z) (take_all i others' end) l.observed)

-- ---- all

then_come : (t : Trail) (ps qs rs : List Handle) → AllZip KeepsHandle ps qs → AllZip (HasCome t) qs rs → AllZip (HasCome t) ps rs
then_come t [] [] [] h k = tt
then_come t [] [] (r ∷ rs) h k = absurd k
then_come t [] (q ∷ qs) rs h k = absurd h
then_come t (p ∷ ps) [] rs h k = absurd h
then_come t (p ∷ ps) (q ∷ qs) [] h k = absurd k
then_come t (p ∷ ps) (q ∷ qs) (r ∷ rs) h k =
    let come : Comes t (seat_of q) (seat_of r) = k.0.2 in
    let now : Comes t (seat_of p) (seat_of r) = record {
      same = same_pass p.pass q.pass r.pass h.0.0.1 come.same;
      is = come.is;
      begins = subst (λ (z : Trail). GoesOnFrom z t) h.0.2 come.begins;
      none = subst (λ (z : ℕ × Trail). own z.0 t ≡ own z.0 z.1) (λ i. (h.0.0.1.2 i, h.0.2 i)) come.none;
    } in
    ((k.0.0 ∙ h.0.0.0, k.0.1 ∙ h.0.1, now), then_come t ps qs rs h.1 k.1)

pub all_met : (first : List (Option Page)) (one mid last : Handle) (others mids lasts : List Handle) → LearnsAll first one mid others mids → KeepsHandle mid last → AllZip (HasCome (seen_by mid)) mids lasts → HaveAllMet first one others last lasts
all_met first one mid last others mids lasts l k observed = record {
  seen = seen_by mid;
  mine = (k.0.0 ∙ l.same.0, k.1 ∙ l.keeps, record { same = same_pass one.pass mid.pass last.pass l.same.1 k.0.1; is = k.2; begins = l.begins; none = l.none });
  theirs = then_come (seen_by mid) others mids lasts l.kept observed;
  may_be = l.may_be;
}
