-- A commit: all handles have met, what they had noted is put to the log, and they let it go.
use Rattle.std.proofs.Common.{◌≡◌, ◌⊎◌, inl, ℕ, suc, List, [], ◌∷◌, ◌++◌, Option, length, get_or, refl, sym, ap, ◌∙◌, subst, append-nil}
use Rattle.std.specs.Prelude.{All, flat_map, Result, Ok, Err, IsErr, OnOk}
use Rattle.std.specs.List.{AllZip}
use Rattle.std.proofs.lemmas.List.Elements.{All-nil, All-cons, All-head, All-tail}
use Rattle.bl_model.specs.declared.operation.Entry.{Entry}
use Rattle.bl_journal.specs.Files.{LeavesOnly}
use Rattle.bl_journal.specs.Logs.{IsLogOf, KeepsMap}
use Rattle.bl_journal.specs.Rows.{Leads}
use Rattle.bl_journal.specs.declared.fault.LogFault.{LogFault}
use Rattle.bl_journal.proofs.Keeping.{leaves_log}
use Rattle.bl_journal.proofs.Moments.{started}
use Rattle.bl_changes.specs.Changes.{all_came, all_went}
use Rattle.bl_claims.specs.Trails.{Trail}
use Rattle.bl_claims.specs.Seeing.{IsLinearizable, AreWithin, GoesOnFrom, own}
use Rattle.bl_index.specs.Calls.{first_of, passes_of, IsPassOf, trail}
use Rattle.bl_index.specs.declared.index.Index.{Index}
use Rattle.bl_map.specs.declared.handle.Handle.{Handle}
use Rattle.bl_map.specs.declared.map.Map.{Map}
use Rattle.bl_map.specs.Handles.{IsSameHandle, KeepsHints, HasKeptUp, first_map_of, index_of, number_of_seat, seen_by}
use Rattle.bl_map_log.specs.declared.handle.NotingHandle.{NotingHandle}
use Rattle.bl_map_log.specs.declared.log.MapLog.{MapLog}
use Rattle.bl_map_log.specs.Notes.{HasNoted, IsNotingOf, IsCleared, IsClearedOf, KeepsNotes, came_noted, went_noted, done_in}
use Rattle.bl_map_log.specs.Meetings.{HasSeenMore, MakesNoCall, HasMet, AreMet, AreOfOneMap}
use Rattle.bl_map_log.specs.Commits.{AreFrom, AreAllOf, IsWhole, HasLog, HasAllOf, Commits, CallsKeepLog, file_of, map_told}
use Rattle.bl_map_log.proofs.Seen.{goes_self, seen_then, noted_still, done_by}
use Rattle.bl_map_log.proofs.Each.{zip_weaker, zip_goes, zip_front, zip_then}
use Rattle.bl_map_log.proofs.Led.{HistoriesLead, Gives, leads}

-- ---- handles of one map

of_one : (map : Map) (one two : NotingHandle) → IsNotingOf map one → IsNotingOf map two → AreOfOneMap one two
of_one map one two a b = subst (λ (z : Index). IsPassOf z two.handle.pass) (b ∙ sym a) two.handle.own

pub all_of_one : (map : Map) (one : NotingHandle) (others : List NotingHandle) → IsNotingOf map one → All (IsNotingOf map) others → All (AreOfOneMap one) others
all_of_one map one others of all = λ k d low. of_one map one (get_or others k d) of (all k d low)

pub both_of : (map : Map) (one : NotingHandle) (others : List NotingHandle) → IsNotingOf map one → All (IsNotingOf map) others → All (IsNotingOf map) (one ∷ others)
both_of map one others of all = All-cons (IsNotingOf map) one others of all

pub parts_of : (map : Map) (one : NotingHandle) (others : List NotingHandle) → All (IsNotingOf map) (one ∷ others) → IsNotingOf map one × All (IsNotingOf map) others
parts_of map one others all = (All-head (IsNotingOf map) one others all, All-tail (IsNotingOf map) one others all)

same_map : (map : Map) (a b : NotingHandle) → IsNotingOf map a → IsSameHandle a.handle b.handle → IsNotingOf map b
same_map map a b of same = (λ i. (same.0 i).now) ∙ of

abbrev pub IsSame : NotingHandle → NotingHandle → Type 0
IsSame a b = IsSameHandle a.handle b.handle

pub still_of : (map : Map) (olds news : List NotingHandle) → All (IsNotingOf map) olds → AllZip IsSame olds news → All (IsNotingOf map) news
still_of map olds news all same = zip_goes (IsNotingOf map) (IsNotingOf map) IsSame olds news (same_map map) all same

still_from : (map : Map) (from : ℕ) (olds news : List NotingHandle) → AreFrom map from olds → AllZip IsSame olds news → AreFrom map from news
still_from map from [] [] are same = tt
still_from map from [] (b ∷ bs) are same = absurd same
still_from map from (a ∷ xs) [] are same = absurd same
still_from map from (a ∷ xs) (b ∷ bs) are same = (same_map map a b are.0 same.0, same.0.1.2 ∙ are.1, still_from map (suc from) xs bs are.2 same.1)

zip_long : (olds news : List NotingHandle) → AllZip IsSame olds news → length news ≡ length olds
zip_long [] [] same = refl
zip_long [] (b ∷ bs) same = absurd same
zip_long (a ∷ xs) [] same = absurd same
zip_long (a ∷ xs) (b ∷ bs) same = ap suc (zip_long xs bs same.1)

still_all : (map : Map) (olds news : List NotingHandle) → AreAllOf map olds → AllZip IsSame olds news → AreAllOf map news
still_all map olds news all same = record { count = zip_long olds news same ∙ all.count; each = still_from map 0 olds news all.each same }

-- ---- calls between two commits

pub calls_keep : {D : Type 0} (seen : D → List ℕ) (moment : D → ℕ) (leaves : D → ℕ → List ℕ → Type 0) → CallsKeepLog seen moment leaves
calls_keep seen moment leaves map base olds news log h keep = record {
  kept = h.kept;
  whole = h.whole;
  all = still_all map olds news h.all (zip_weaker KeepsNotes IsSame olds news (λ a b k. k.same) keep);
  noted = zip_goes (HasNoted base) (HasNoted base) KeepsNotes olds news (λ a b n k. k.still base n) h.noted keep;
}

-- ---- all have met

-- All that has happened up to some moment, of which each handle has seen a beginning and sees a continuation now.
pub record Gathered (map : Map) (base : Trail) (olds mets : List NotingHandle) : Type 0 where
  pub now : Trail
  pub later : GoesOnFrom base now
  pub whole : IsWhole map now
  pub met : AllZip (HasMet now) olds mets

within_of : (map : Map) (h : NotingHandle) → IsNotingOf map h → AreWithin (passes_of map.index) (seen_by h.handle)
within_of map h of = subst (λ (z : Index). AreWithin (passes_of z) (seen_by h.handle)) of (subst (λ (z : ℕ). AreWithin z (trail h.handle.pass)) (λ i. (h.handle.own.1 i).passes) h.handle.pass.within)

legal_of : (map : Map) (h : NotingHandle) → IsNotingOf map h → IsLinearizable (first_map_of h.handle) (seen_by h.handle) → IsLinearizable (first_of map.index) (seen_by h.handle)
legal_of map h of legal = subst (λ (z : Index). IsLinearizable (first_of z) (seen_by h.handle)) of legal

pub gathered : (map : Map) (base : Trail) (olds mets : List NotingHandle) → IsWhole map base → All (IsNotingOf map) olds → All (HasNoted base) olds → AreMet olds mets → Gathered map base olds mets
gathered map base [] [] whole of noted met = record { now = base; later = goes_self base; whole = whole; met = tt }
gathered map base [] (b ∷ bs) whole of noted met = absurd met
gathered map base (a ∷ xs) [] whole of noted met = absurd met
gathered map base (a ∷ xs) (b ∷ bs) whole of noted met =
    let now = seen_by met.mid.handle in
    let mine = same_map map a met.mid (All-head (IsNotingOf map) a xs of) met.before.same in
    let had = noted_still base a met.mid met.before (All-head (HasNoted base) a xs noted) in record {
      now = now;
      later = had.begins;
      whole = record { legal = legal_of map met.mid mine had.legal; within = within_of map met.mid mine };
      met = (record { more = seen_then a met.mid b met.before met.behind; begins = met.before.begins; ends = met.behind.begins }, met.theirs);
    }

module _ (map : Map) (base : Trail) (olds mets : List NotingHandle) (g : Gathered map base olds mets) where
  pub has_all : HasAllOf map olds g.now
  has_all = record {
    whole = g.whole;
    begins = zip_front (λ h. GoesOnFrom (seen_by h.handle) g.now) (HasMet g.now) olds mets (λ a b m. m.begins) g.met;
    done = zip_front (λ h. done_in g.now h ≡ done_in (seen_by h.handle) h) (HasMet g.now) olds mets (λ a b m. done_by g.now a b m) g.met;
  }

  same_met : AllZip IsSame olds mets
  same_met = zip_weaker (HasMet g.now) IsSame olds mets (λ a b m. m.more.same) g.met

  -- what they have noted gives what they have done since
  gives : (rows : List Entry → List (ℕ × ℕ)) (noted : NotingHandle → List (ℕ × ℕ)) (hs ms : List NotingHandle) → ((h : NotingHandle) → HasNoted base h → rows (done_in (seen_by h.handle) h) ≡ rows (done_in base h) ++ noted h)
      → All (HasNoted base) hs → AllZip (HasMet g.now) hs ms → All (Gives rows noted base g.now) hs
  gives rows noted [] [] says all met = All-nil (Gives rows noted base g.now)
  gives rows noted [] (m ∷ ms) says all met = absurd met
  gives rows noted (h ∷ hs) [] says all met = absurd met
  gives rows noted (h ∷ hs) (m ∷ ms) says all met = All-cons (Gives rows noted base g.now) h hs
      (ap rows (done_by g.now h m met.0) ∙ says h (All-head (HasNoted base) h hs all))
      (gives rows noted hs ms says (All-tail (HasNoted base) h hs all) met.1)

  -- and they have noted the same when they have met
  same_notes : (noted : NotingHandle → List (ℕ × ℕ)) (hs ms : List NotingHandle) → ((a b : NotingHandle) → HasSeenMore a b → noted b ≡ noted a) → AllZip (HasMet g.now) hs ms → flat_map noted ms ≡ flat_map noted hs
  same_notes noted [] [] says met = refl
  same_notes noted [] (m ∷ ms) says met = absurd met
  same_notes noted (h ∷ hs) [] says met = absurd met
  same_notes noted (h ∷ hs) (m ∷ ms) says met = (λ i. says h m met.0.more i ++ same_notes noted hs ms says met.1 i)

  pub led : HistoriesLead → (came went : List (ℕ × ℕ)) → IsWhole map base → AreAllOf map olds → All (HasNoted base) olds → came ≡ flat_map came_noted mets → went ≡ flat_map went_noted mets
      → Leads came went (map_told map base) (map_told map g.now)
  led law came went whole all noted is_came is_went =
      subst (λ (z : List (ℕ × ℕ) × List (ℕ × ℕ)). Leads z.0 z.1 (map_told map base) (map_told map g.now))
      (λ i. (sym (is_came ∙ same_notes came_noted olds mets (λ a b s. s.notes.came) g.met) i, sym (is_went ∙ same_notes went_noted olds mets (λ a b s. s.notes.went) g.met) i))
      (leads law map base g.now olds whole g.whole all
      (gives all_came came_noted olds mets (λ h n. n.came) noted g.met) (gives all_went went_noted olds mets (λ h n. n.went) noted g.met))

  -- ---- they let it go

  -- since that trail the handle has done nothing
  anew : (a b c : NotingHandle) → HasNoted base a → HasMet g.now a b → IsClearedOf b c → HasNoted g.now c
  anew a b c n m k =
      let had = noted_still base a b m.more n in
      let p = number_of_seat a.handle in
      let done : own p (seen_by b.handle) ≡ own p g.now = m.more.none ∙ sym (done_by g.now a b m) in
      let here : own (number_of_seat b.handle) (seen_by b.handle) ≡ own (number_of_seat b.handle) g.now = subst (λ (z : ℕ). own z (seen_by b.handle) ≡ own z g.now) (sym m.more.same.1.2) done in
      let at : own (number_of_seat c.handle) (seen_by c.handle) ≡ own (number_of_seat c.handle) g.now = subst (λ (z : Handle). own (number_of_seat z) (seen_by z) ≡ own (number_of_seat z) g.now) (sym k.0) here in record {
        begins = subst (λ (z : Handle). GoesOnFrom g.now (seen_by z)) (sym k.0) m.ends;
        legal = subst (λ (z : Handle). IsLinearizable (first_map_of z) (seen_by z)) (sym k.0) had.legal;
        came = ap all_came at ∙ (sym (append-nil (all_came (done_in g.now c))) ∙ ap (λ (z : List (ℕ × ℕ)). all_came (done_in g.now c) ++ z) (sym k.1.came));
        went = ap all_went at ∙ (sym (append-nil (all_went (done_in g.now c))) ∙ ap (λ (z : List (ℕ × ℕ)). all_went (done_in g.now c) ++ z) (sym k.1.went));
      }

  all_anew : (xs bs cs : List NotingHandle) → All (HasNoted base) xs → AllZip (HasMet g.now) xs bs → AllZip IsClearedOf bs cs → All (HasNoted g.now) cs × All IsCleared cs
  all_anew [] [] [] n m k = (All-nil (HasNoted g.now), All-nil IsCleared)
  all_anew [] [] (c ∷ cs) n m k = absurd k
  all_anew [] (b ∷ bs) cs n m k = absurd m
  all_anew (a ∷ xs) [] cs n m k = absurd m
  all_anew (a ∷ xs) (b ∷ bs) [] n m k = absurd k
  all_anew (a ∷ xs) (b ∷ bs) (c ∷ cs) n m k = let more = all_anew xs bs cs (All-tail (HasNoted base) a xs n) m.1 k.1 in (
    All-cons (HasNoted g.now) c cs (anew a b c (All-head (HasNoted base) a xs n) m.0 k.0) more.0,
    All-cons IsCleared c cs k.0.1 more.1,
  )

  same_cleared : (news : List NotingHandle) → AllZip IsClearedOf mets news → AllZip IsSame olds news
  same_cleared news k = zip_then IsSame IsClearedOf IsSame olds mets news (λ a b c s d. subst (IsSameHandle a.handle) (sym d.0) s) same_met k

  pub goes_anew : {D : Type 0} (seen : D → List ℕ) (moment : D → ℕ) (leaves : D → ℕ → List ℕ → Type 0) (news : List NotingHandle) (log : MapLog D) → AreAllOf map olds → All (HasNoted base) olds → AllZip IsClearedOf mets news
      → KeepsMap seen moment leaves (map_told map g.now) log.journal → HasLog seen moment leaves map g.now news log × All IsCleared news
  goes_anew seen moment leaves news log all noted k kept = let fresh = all_anew olds mets news noted g.met k in (
    record { kept = kept; whole = g.whole; all = still_all map olds news all (same_cleared news k); noted = fresh.0 },
    fresh.1,
  )

-- the handles of a commit are those of before
pub met_same : (olds mets : List NotingHandle) → AreMet olds mets → AllZip IsSame olds mets
met_same [] [] met = tt
met_same [] (b ∷ bs) met = absurd met
met_same (a ∷ xs) [] met = absurd met
met_same (a ∷ xs) (b ∷ bs) met = ((seen_then a met.mid b met.before met.behind).same, zip_weaker (HasMet (seen_by met.mid.handle)) IsSame xs bs (λ x y m. m.more.same) met.theirs)

-- and have made no call
no_call : (a b : NotingHandle) → HasSeenMore a b → MakesNoCall a b
no_call a b s = record { same = s.same; hints = s.hints; kept = record { begins = s.begins; seen = s.legal; none = s.none } }

pub met_idle : (olds mets : List NotingHandle) → AreMet olds mets → AllZip MakesNoCall olds mets
met_idle [] [] met = tt
met_idle [] (b ∷ bs) met = absurd met
met_idle (a ∷ xs) [] met = absurd met
met_idle (a ∷ xs) (b ∷ bs) met = (no_call a b (seen_then a met.mid b met.before met.behind), zip_weaker (HasMet (seen_by met.mid.handle)) MakesNoCall xs bs (λ x y m. no_call x y m.more) met.theirs)

pub cleared_idle : (olds mets news : List NotingHandle) → AreMet olds mets → AllZip IsClearedOf mets news → AllZip MakesNoCall olds news
cleared_idle olds mets news met k = zip_then MakesNoCall IsClearedOf MakesNoCall olds mets news (λ a b c m d. record {
  same = subst (IsSameHandle a.handle) (sym d.0) m.same;
  hints = subst (KeepsHints a.handle) (sym d.0) m.hints;
  kept = subst (HasKeptUp a.handle) (sym d.0) m.kept;
}) (met_idle olds mets met) k

pub cleared_of : (map : Map) (mets news : List NotingHandle) → All (IsNotingOf map) mets → AllZip IsClearedOf mets news → All (IsNotingOf map) news
cleared_of map mets news all k = zip_goes (IsNotingOf map) (IsNotingOf map) IsClearedOf mets news (λ a b of c. subst (λ (z : Handle). index_of z ≡ map.index) (sym c.0) of) all k

-- ---- how a commit ends

pub none_ok : (result : Result (Unit {0}) LogFault) (P : Type 0) → IsErr result → OnOk result P
none_ok (Ok done) P failed = absurd (let no : ⊥ = cc in no)
none_ok (Err fault) P failed = tt

module _ {D : Type 0} (seen : D → List ℕ) (moment : D → ℕ) (leaves : D → ℕ → List ℕ → Type 0) (map : Map) (base : Trail) (olds mets : List NotingHandle) (old : MapLog D) (h : HasLog seen moment leaves map base olds old) (of : All (IsNotingOf map) olds) (met : AreMet olds mets) where
  all_in : Gathered map base olds mets
  all_in = gathered map base olds mets h.whole of h.noted met

  -- there was no memory to put together what was noted, and nothing was written
  pub not_collected : (result : Result (Unit {0}) LogFault) → IsErr result → (new : MapLog D) → file_of new ≡ file_of old → Commits seen moment leaves map base result olds mets old new
  not_collected result failed new same = record {
    now = all_in.now;
    later = all_in.later;
    all = has_all map base olds mets all_in;
    crash = subst (λ (z : D). LeavesOnly moment leaves (file_of old) z (λ c. IsLogOf c (map_told map base) ⊎ IsLogOf c (map_told map all_in.now))) (sym same)
        (started moment leaves (file_of old) (λ c. IsLogOf c (map_told map base) ⊎ IsLogOf c (map_told map all_in.now)) (λ c left. inl (leaves_log seen moment leaves (map_told map base) old.journal h.kept c left)));
    kept = none_ok result (HasLog seen moment leaves map all_in.now mets new × All IsCleared mets) failed;
  }

  -- the changes lead from the one map to the other, and were put to the log, or not
  pub put : HistoriesLead → (result : Result (Unit {0}) LogFault) (came went : List (ℕ × ℕ)) (news : List NotingHandle) (new : MapLog D) → came ≡ flat_map came_noted mets → went ≡ flat_map went_noted mets
      → ((m n : ℕ → Option ℕ) → KeepsMap seen moment leaves m old.journal → Leads came went m n → LeavesOnly moment leaves (file_of old) (file_of new) (λ c. IsLogOf c m ⊎ IsLogOf c n))
      → ((m n : ℕ → Option ℕ) → KeepsMap seen moment leaves m old.journal → Leads came went m n → OnOk result (KeepsMap seen moment leaves n new.journal × AllZip IsClearedOf mets news))
      → Commits seen moment leaves map base result olds news old new
  put law result came went news new is_came is_went crash kept =
      let led_by = led map base olds mets all_in law came went h.whole h.all h.noted is_came is_went in record {
        now = all_in.now;
        later = all_in.later;
        all = has_all map base olds mets all_in;
        crash = crash (map_told map base) (map_told map all_in.now) h.kept led_by;
        kept = on_ok result (kept (map_told map base) (map_told map all_in.now) h.kept led_by);
      }
    where
      on_ok : (r : Result (Unit {0}) LogFault) → OnOk r (KeepsMap seen moment leaves (map_told map all_in.now) new.journal × AllZip IsClearedOf mets news) → OnOk r (HasLog seen moment leaves map all_in.now news new × All IsCleared news)
      on_ok (Ok done) k = goes_anew map base olds mets all_in seen moment leaves news new h.all h.noted k.1 k.0
      on_ok (Err fault) k = tt
