-- Every turn of a process that compresses keeps a world good.
use Rattle.std.proofs.Common.{ℕ, suc, ◌≡◌, ◌-◌, ◌<◌, ◌≤◌, List, [], length, get_or, Some, None, arith, ap, sym, ◌∙◌, refl, subst, inl, inr, Bool}
use Rattle.std.proofs.lemmas.Bool.{cases_lt}
use Rattle.bl_model.specs.Rows.{map_of}
use Rattle.bl_page.specs.declared.page.Page.{Page}
use Rattle.bl_page.specs.declared.page.Page.TheVariants.{Inner as InnerPage}
use Rattle.bl_page.specs.declared.page.Inner.{Inner}
use Rattle.bl_page.specs.Machine.{Name, State}
use Rattle.bl_page.specs.Machine.Act.{Get}
use Rattle.bl_page.specs.Pairs.{place}
use Rattle.bl_page.proofs.Lookups.{place-le}
use Rattle.bl_page.specs.Nodes.{unbounded, node_of, IsTreePage}
use Rattle.bl_claims.specs.Trails.{Mark}
use Rattle.bl_tree_worlds.proofs.Pushes.{HasSaid-silent}
use Rattle.bl_tree_worlds.specs.Worlds.{Stage, Know, World, MayGet, IsGoes, IsSure, IsGood}
use Rattle.bl_tree_worlds.proofs.Descents.{goes_down, not_released}
use Rattle.bl_proc_steps.specs.declared.acts.Seen.{Seen}
use Rattle.bl_proc_steps.specs.declared.approach.Approach.TheVariants as way
use Rattle.bl_rearrange.specs.declared.families.Family.{Family}
use Rattle.bl_proc_compress.specs.declared.compression.Decision.{Decision}
use Rattle.bl_proc_compress.specs.declared.compression.Compression.{Compression}
use Rattle.bl_proc_compress.specs.declared.compression.Compression.TheVariants.{LatchingLeft}
use Rattle.bl_proc_compress.specs.declared.compression.Compressed.TheVariants as step
use Rattle.bl_proc_compress.specs.Compressions.{right_place, AreSiblings, compression_next}
use Rattle.bl_proc_compress.proofs.Places.{listed_at}
use Rattle.bl_proc_compress.specs.declared.compress.CompressStage.{CompressStage}
use Rattle.bl_proc_compress.specs.Compresses.{compress_next_in}
use Rattle.bl_proc_invariant.specs.Turns.{event_of, IsObserved, Does, Turned}
use Rattle.bl_proc_invariant.specs.Tables.{idle, alone, goes_to, know_approach}
use Rattle.bl_proc_invariant.specs.Compressing.{know_compression}
use Rattle.bl_proc_invariant.specs.Knowing.{know_compress, compress_got}
use Rattle.bl_proc_invariant.proofs.Acts.{watched}
use Rattle.bl_proc_invariant.proofs.Approaching.{approach_turn, give_up_turn, kept_turn, stay_turn}
use Rattle.bl_proc_invariant.proofs.Compressing.{open_parent_turn}
use Rattle.bl_proc_invariant.proofs.CompressionTurn.{compression_turn}
use Rattle.bl_proc_invariant.proofs.Ends.{begin_turn, end_turn}
use Rattle.bl_proc_deterministic.proofs.WayCases.{CompressionCase, compression_case}
use Rattle.bl_proc_deterministic.proofs.KindCases.{CompressCase}

-- the left child stands at a place of the parent
left_within : (key : ℕ) (pairs : List (ℕ × ℕ)) → 2 ≤ length pairs → right_place key pairs - 1 < length pairs
left_within key pairs two =
    let most = place-le key pairs in
    elim (cases_lt (place key pairs) (length pairs)) [ inl lt ↦ grind (arith, lt, two) | inr ge ↦ grind (arith, ge, most, two) ]

module _ {P : Type 0} (know : P → Know) (w : World P) (g : IsGood know w) (p : Name) (b : P) (level key : ℕ) (least : 0 < level) (limit : level ≤ 12) where
  -- at the parent: it lists these children
  child_goes : (x k c : ℕ) (parent : Inner) → MayGet w p x → w.now.contents x ≡ InnerPage parent → parent.level ≡ level → map_of parent.children.items k ≡ Some c → IsGoes w p (goes_to c (level - 1) (level - 1))
  child_goes x k c parent may page at listed =
      goes_down know w g p x (level - 1) k c may (subst IsTreePage (sym page) tt) (ap (λ v. (node_of v).shape.level) page ∙ (at ∙ (let e : level ≡ suc (level - 1) = omega (arith, least) in e)))
      (record { key = k; listed = ap (λ v. (node_of v).look k) page ∙ listed; reached = omega arith; greatest = λ j other e le. le })

  family_turn : (x : ℕ) (parent : Inner) (f : Family) (got : ℕ → Page) (s : State Page) → know (w.proc p) ≡ know_approach alone level key (way.Latched x) → know b ≡ know_compression level key got (LatchingLeft f) → w.now.contents x ≡ InnerPage parent → parent.level ≡ level → AreSiblings x key parent (Some f) → Does w.now p (Get x) s → Turned know w p (Get x) s b
  family_turn x parent f got s before then page at_level siblings does =
      let two = siblings.0 in
      let family = siblings.1 in
      let is : IsSure w p (know_approach alone level key (way.Latched x)) = rw before at (g.sure p) in
      let held = is.holds.0 in
      let may = is.goes.0.may in
      let m : Mark = record { event = record { process = p; act = Get x }; saw = Some (w.now.contents x); said = None } in
      let items = parent.children.items in
      let i = right_place key items - 1 in
      let left : map_of items (get_or items i (0, 0)).0 ≡ Some f.at.left = listed_at 0 i items parent.order (left_within key items two) ∙ ap Some family.left in
      let right : map_of items f.key ≡ Some f.at.right = ap (λ (v : Inner). map_of v.children.items f.key) (sym family.parent_is) ∙ f.lists in
      watched know w g p b _ _ before then (Get x) (Some (w.now.contents x)) None s tt (is.stage, not_released know w g p x may) does refl refl
      (λ y h. elim h [ inl e ↦ inl (family.parent_at ∙ e) | inr u ↦ absurd u ]) (λ it e. cc) (λ j. refl)
      (record {
        stage = is.stage;
        said = HasSaid-silent w.trail m p None refl is.said;
        holds = ((ap s.owner family.parent_at ∙ (does.changes.1 x ∙ held.owner), ap w.status family.parent_at ∙ held.status, tt, ap w.now.contents family.parent_at ∙ (page ∙ ap InnerPage (sym family.parent_is))), tt);
        goes = (child_goes x (get_or items i (0, 0)).0 f.at.left parent may page at_level left, (child_goes x f.key f.at.right parent may page at_level right, tt));
        children = tt;
        passed = tt;
        sound = (is.sound, least, ap (λ (v : Inner). v.level) family.parent_is ∙ at_level);
      })

  -- the compression is over
  over_turn : {c : Compression} {what : Seen} {decision : Decision} → CompressionCase c what (step.Over decision) → (S : Type 0) (got : ℕ → Page) (s : State Page) → know (w.proc p) ≡ know_compression level key got c → know b ≡ record (idle Stage.Busy) { sound = S } → (key < unbounded → S) → Does w.now p (event_of None (compression_next c) what) s → Turned know w p (event_of None (compression_next c) what) s b
  over_turn (CompressionCase.OpenedParent x f _ t) S got s before then on does = open_parent_turn know w g p b level key got 0 0 x f S s before then on does

  pub compress_turn : {waits : Bool} {a a' : CompressStage} {what : Seen} → CompressCase level key waits a what a' → (got : ℕ → Page) (s : State Page) → know (w.proc p) ≡ know_compress level key got a → know b ≡ know_compress level key (compress_got got a what) a' → IsObserved w.now w.size (compress_next_in a) what → Does w.now p (event_of None (compress_next_in a) what) s → Turned know w p (event_of None (compress_next_in a) what) s b
  compress_turn (CompressCase.Began a t) got s before then observed does = begin_turn know w g p b alone key s before (rw t at then) does
  compress_turn (CompressCase.NoLevel c t) got s before then observed does = give_up_turn know w g p b alone level key s before then does
  compress_turn (CompressCase.Came a what a' t) got s before then observed does = approach_turn know w g p b alone level key a a' what s limit before then t observed does
  compress_turn (CompressCase.Met x parent f l t) got s before then observed does = family_turn x parent f got s before then (sym observed) l.2 t does
  compress_turn (CompressCase.Single x parent y l t) got s before then observed does = kept_turn know w g p b alone level key x s before (rw t.0 at then) does
  compress_turn (CompressCase.WentOn c what d t) got s before then observed does = compression_turn know w g p b level key least got _ c d what s before then t observed does
  compress_turn (CompressCase.Lost c what a (decision, t, none, start)) got s before then observed does = over_turn (compression_case _ c what _ t) (key < unbounded) got s before (rw start at then) (λ e. e) does
  compress_turn (CompressCase.Finished c what r (decision, t, some)) got s before then observed does = over_turn (compression_case _ c what _ t) (Unit {0}) got s before then (λ e. tt) does
  compress_turn (CompressCase.Opened x r t) got s before then observed does = stay_turn know w g p b alone level key x (Unit {0}) s before then does
  compress_turn (CompressCase.Ended r last t) got s before then observed does = end_turn know w g p b None [] (Unit {0}) s before then does
