-- A process enters a world.
use Rattle.std.proofs.Common.{ℕ, ◌≡◌, ◌≢◌, ◌⊎◌, ◌^◌, ◌-◌, ◌<◌, ◌++◌, zero, suc, slice_index, List, [], ◌∷◌, length, arith, ap, sym, ◌∙◌, refl, subst, inl, inr, append-nil}
use Rattle.std.proofs.lemmas.Option.{slice_get_within}
use Rattle.bl_model.specs.declared.deciding.KeyWrite.{KeyWrite}
use Rattle.bl_page.specs.declared.page.Page.{Page}
use Rattle.bl_page.specs.Machine.{Name}
use Rattle.bl_tree_worlds.proofs.After.{put_name, is_put_name}
use Rattle.bl_tree_worlds.specs.Blank.{IsBlank}
use Rattle.bl_tree_worlds.specs.Worlds.{Goes}
use Rattle.bl_proc_steps.specs.declared.acts.Action.TheVariants as act
use Rattle.bl_proc.specs.declared.searching.FindStage.{FindStage}
use Rattle.bl_proc.specs.declared.searching.FindStage.TheVariants as find
use Rattle.bl_proc.specs.declared.parts.PartStage.{PartStage}
use Rattle.bl_proc.specs.declared.parts.PartStart.{PartStart}
use Rattle.bl_proc.specs.declared.parts.PartStage.TheVariants as part
use Rattle.bl_proc_writes.specs.declared.writing.WriteStage.{WriteStage}
use Rattle.bl_proc_writes.specs.declared.writing.WriteStage.TheVariants as write
use Rattle.bl_proc_writes.specs.declared.post.PostStage.{PostStage}
use Rattle.bl_proc_writes.specs.declared.post.PostStage.TheVariants as post
use Rattle.bl_proc_compress.specs.declared.compress.CompressStage.{CompressStage}
use Rattle.bl_proc_compress.specs.declared.compress.CompressStage.TheVariants as compress
use Rattle.bl_proc.specs.declared.reclaiming.Reclaim.{Reclaim}
use Rattle.bl_proc.specs.declared.reclaiming.ReclaimStage.{ReclaimStage}
use Rattle.bl_proc.specs.declared.reclaiming.ReclaimStage.TheVariants as reclaim
use Rattle.bl_proc_writes.specs.declared.paths.Path.{Path}
use Rattle.bl_proc_writes.specs.declared.insert_post.ClimbStage.{ClimbStage}
use Rattle.bl_proc_writes.specs.declared.insert_post.ClimbStage.TheVariants as climb
use Rattle.bl_proc.specs.declared.kinds.Proc.{Proc}
use Rattle.bl_proc.specs.declared.lowering.LowerStage.{LowerStage}
use Rattle.bl_proc.specs.declared.lowering.LowerStage.TheVariants as lower
use Rattle.bl_proc.specs.declared.kinds.Proc.TheVariants as proc
use Rattle.bl_proc.specs.Processes.{next_of, IsReclaim}
use Rattle.bl_proc.specs.Searches.{find_next_in}
use Rattle.bl_proc.specs.Parts.{part_next_in}
use Rattle.bl_proc_writes.specs.Writes.{write_next_in}
use Rattle.bl_proc_writes.specs.Posts.{post_next_in}
use Rattle.bl_proc_compress.specs.Compresses.{compress_next_in}
use Rattle.bl_proc.specs.Reclaims.{reclaim_next_in}
use Rattle.bl_proc.specs.Lowers.{lower_next_in}
use Rattle.bl_proc_writes.specs.Paths.{IsBlank as IsUnnoted}
use Rattle.bl_proc_writes.specs.Stands.{BeginsBlank, IsPosting, Stands}
use Rattle.bl_proc_writes.specs.InsertPosts.{climb_next_in}
use Rattle.bl_proc_writes.specs.declared.insert_post.Placing.{Placing}
use Rattle.bl_proc_writes.specs.Placings.{write_of}
use Rattle.bl_proc_invariant.specs.Knowing.{Run, know_of, know_find, know_part, know_write, know_post, know_compress, know_reclaim, know_lower, goes_above, path_goes, know_climb}
use Rattle.bl_proc_invariant.specs.Tables.{alone}
use Rattle.bl_proc_invariant.proofs.Instead.{with_proc}
use Rattle.bl_proc_invariant.proofs.Starting.{enters_good, enters_logs}
use Rattle.bl_proc_bounds.proofs.Kept.{enter_kept}
use Rattle.bl_world.specs.declared.turns.Event.{Event}
use Rattle.bl_world.specs.declared.owners.Owner.{Owner}
use Rattle.bl_world.specs.Views.{name_of}
use Rattle.bl_world.specs.Worlds.{key_in, IsUnknown, IsReclaiming, HasWorld}
use Rattle.bl_world.proofs.Stands.{Grows, name_differs}
use Rattle.bl_world.proofs.Begins.{approach_begins, edit_begins, growth_begins, compression_begins, lowering_begins}
use Rattle.bl_world.proofs.Places.{push_cases, push_length}

-- A process that is to begin has done nothing.

find_blank : (k : ℕ) (a : FindStage) → k < 2 ^ 64 → find_next_in a ≡ act.Begin → IsBlank (know_find k a)
find_blank k (find.Near x) small e = record { stage = refl; said = refl; holds = refl; goes = refl; children = refl; passed = refl; sound = small }
find_blank k find.New small e = record { stage = refl; said = refl; holds = refl; goes = refl; children = refl; passed = refl; sound = small }
find_blank k old small e = absurd cc

part_blank : (k : PartStart) (a : PartStage) → k.key < 2 ^ 64 → part_next_in a ≡ act.Begin → IsBlank (know_part k a)
part_blank k (part.Near x) small e = record { stage = refl; said = refl; holds = refl; goes = refl; children = refl; passed = refl; sound = small }
part_blank k part.New small e = record { stage = refl; said = refl; holds = refl; goes = refl; children = refl; passed = refl; sound = small }
part_blank k old small e = absurd cc

-- where no page is noted there is none to go to
blank_goes : (level : ℕ) (pages : List ℕ) → ((i : ℕ) → slice_index pages i ≡ 0) → goes_above level pages ≡ []
blank_goes level [] none = refl
blank_goes level (zero ∷ rest) none = blank_goes (suc level) rest (λ i. none (suc i))
blank_goes level (suc x ∷ rest) none = absurd (let e : suc x ≡ 0 = none 0 in omega (arith, e))

no_goes : (path : Path) → IsUnnoted path → path_goes path ≡ []
no_goes path none = blank_goes 1 path.pages (λ i. (let e : suc i - 1 ≡ i = omega arith in subst (λ k. slice_index path.pages k ≡ 0) e (none (suc i))))

write_blank : (goes : List Goes) (k : ℕ) (does : KeyWrite) (got : ℕ → Page) (a : WriteStage) → k < 2 ^ 64 → write_next_in a ≡ act.Begin → (a ≡ write.New → goes ≡ []) → IsBlank (know_write goes k does got a)
write_blank goes k does got write.New small e none = record { stage = refl; said = refl; holds = refl; goes = none refl; children = refl; passed = refl; sound = small }
write_blank goes k does got (write.Coming a) small e none = approach_begins a e
write_blank goes k does got (write.Editing noted c) small e none = edit_begins c e
write_blank goes k does got old small e none = absurd cc

post_blank : (l k : ℕ) (got : ℕ → Page) (child : ℕ) (a : PostStage) → k < 2 ^ 64 → post_next_in a ≡ act.Begin → IsBlank (know_post alone l k got child a)
post_blank l k got child post.New small e = record { stage = refl; said = refl; holds = refl; goes = refl; children = refl; passed = refl; sound = small }
post_blank l k got child (post.Coming a) small e = approach_begins a e
post_blank l k got child (post.Growing g) small e = growth_begins g e
post_blank l k got child (post.Editing c) small e = edit_begins c e
post_blank l k got child old small e = absurd cc

-- a post within an insertion has begun
post_begun : {X : Type 0} (a : PostStage) → IsPosting a → post_next_in a ≡ act.Begin → X
post_begun post.New i e = absurd i
post_begun (post.Coming a) i e = approach_begins a e
post_begun (post.Growing g) i e = growth_begins g e
post_begun (post.Editing c) i e = edit_begins c e
post_begun old i e = absurd cc

climb_blank : (k : ℕ) (placing : Placing) (path : Path) (got : ℕ → Page) (child : ℕ) (a : ClimbStage) → Stands k placing path a → k < 2 ^ 64 → climb_next_in a ≡ act.Begin → IsBlank (know_climb k placing path got child a)
climb_blank k placing path got child (climb.Writing w) h small e = write_blank (path_goes path) k (write_of placing) got w.stage small e (λ new. no_goes path (subst (BeginsBlank path) new h.3))
climb_blank k placing path got child (climb.Posting p) h small e = post_begun p.stage h e
climb_blank k placing path got child (climb.Ending r) h small e = absurd cc
climb_blank k placing path got child (climb.Over r) h small e = absurd cc

compress_blank : (l k : ℕ) (got : ℕ → Page) (a : CompressStage) → k < 2 ^ 64 → compress_next_in a ≡ act.Begin → IsBlank (know_compress l k got a)
compress_blank l k got compress.New small e = record { stage = refl; said = refl; holds = refl; goes = refl; children = refl; passed = refl; sound = small }
compress_blank l k got (compress.Coming a) small e = approach_begins a e
compress_blank l k got (compress.Compressing c) small e = compression_begins c e
compress_blank l k got old small e = absurd cc

lower_blank : (got : ℕ → Page) (a : LowerStage) → lower_next_in a ≡ act.Begin → IsBlank (know_lower got a)
lower_blank got lower.New e = record { stage = refl; said = refl; holds = refl; goes = refl; children = refl; passed = refl; sound = tt }
lower_blank got (lower.Sinking l) e = lowering_begins l e
lower_blank got old e = absurd cc

reclaim_begins : {X : Type 0} (page : ℕ) (a : ReclaimStage) → reclaim_next_in page a ≡ act.Begin → X
reclaim_begins page reclaim.Seeing e = absurd cc
reclaim_begins page (reclaim.Looking r) e = absurd cc
reclaim_begins page reclaim.Releasing e = absurd cc
reclaim_begins page (reclaim.Over what) e = absurd cc

-- it is to begin, or to release a page
abbrev IsNew : ℕ → Proc → Type 0
IsNew size p = (next_of p ≡ act.Begin) ⊎ ((x : ℕ) × (x < size) × IsReclaim x p)

reclaim_blank : (time : ℕ) (a : ReclaimStage) → a ≡ reclaim.Seeing → IsBlank (know_reclaim time a)
reclaim_blank time a e = rw e (record { stage = refl; said = refl; holds = refl; goes = refl; children = refl; passed = refl; sound = tt })

pub blank : (size : ℕ) (got : ℕ → Page) (child time : ℕ) (p : Proc) → key_in p < 2 ^ 64 → IsNew size p → IsBlank (know_of got child time p)
blank size got child time (proc.Find p) small (inl e) = find_blank p.key p.stage small e
blank size got child time (proc.Write p) small (inl e) = write_blank [] p.key p.write got p.stage small e (λ new. refl)
blank size got child time (proc.Post p) small (inl e) = post_blank p.level p.key got child p.stage small e
blank size got child time (proc.Part p) small (inl e) = part_blank p.from p.stage small e
blank size got child time (proc.Compress p) small (inl e) = compress_blank p.level p.key got p.stage small e
blank size got child time (proc.Reclaim p) small (inl e) = reclaim_begins p.page p.stage e
blank size got child time (proc.Lower p) small (inl e) = lower_blank got p.stage e
blank size got child time (proc.InsertPost p) small (inl e) = climb_blank p.key p.placing p.path got child p.stage p.stands small e
blank size got child time (proc.Find p) small (inr r) = absurd r.2
blank size got child time (proc.Write p) small (inr r) = absurd r.2
blank size got child time (proc.Post p) small (inr r) = absurd r.2
blank size got child time (proc.Part p) small (inr r) = absurd r.2
blank size got child time (proc.Compress p) small (inr r) = absurd r.2
blank size got child time (proc.Reclaim p) small (inr r) = reclaim_blank time p.stage r.2.1
blank size got child time (proc.Lower p) small (inr r) = absurd r.2
blank size got child time (proc.InsertPost p) small (inr r) = absurd r.2

-- a process that is to release a page is to look at the owner of a page of the world
new_reclaim : (size : ℕ) (q : Reclaim) → IsNew size (proc.Reclaim q) → (q.page < size) × (q.stage ≡ reclaim.Seeing)
new_reclaim size q (inl e) = reclaim_begins q.page q.stage e
new_reclaim size q (inr r) = (let same = r.2.0 in omega (arith, same, r.1), r.2.1)

-- It stands after all others.
pub enters : (pages : List Page) (owners : List Owner) (processes : List Proc) (events : List Event) (p : Proc) → key_in p < 2 ^ 64 → IsNew (length pages) p → (h : HasWorld pages owners processes events) → Grows h pages owners (processes ++ p ∷ []) events
enters pages owners processes events p small next h =
    let n = length processes in
    let name : Name = name_of (suc n) in
    let old = h.world in
    let b : Run = record { state = p; got = (old.proc name).got; child = 0; time = 0 } in
    let unknown : IsUnknown n name = λ i l. name_differs n i (λ e. omega (arith, e, l)) in
    let free = h.others name unknown in
    let put = is_put_name name b old.proc in
    let more : length (processes ++ p ∷ []) ≡ suc n = push_length processes p in (
      record {
        world = with_proc old name b;
        good = enters_good old name b h.good free.0 free.1 (blank (length pages) b.got 0 0 p small next);
        logs = enters_logs old name b h.logs free.2 (blank (length pages) b.got 0 0 p small next);
        kept = enter_kept old name b free.2 (blank (length pages) b.got 0 0 p small next).stage h.kept;
        opening = h.opening;
        first = h.first;
        size = h.size;
        paired = h.paired;
        contents = h.contents;
        owner = h.owner;
        runs = λ i c is. elim (push_cases processes p i c is) [
          | inl e ↦ ap (λ r. r.state) (put.others (name_of (suc i)) (name_differs i n (λ f. (let l = slice_get_within processes i c e in omega (arith, f, l))))) ∙ h.runs i c e
          | inr e ↦ ap (λ z. (put_name name b old.proc (name_of (suc z))).state) e.0 ∙ (ap (λ r. r.state) put.at ∙ sym e.1)
        ];
        others = λ q far.
            let ne : q ≢ name = far n (rw more (omega arith)) in
            let o = h.others q (λ i l. far i (rw more (omega (arith, l)))) in
            (o.0, rw (put.others q ne) o.1, o.2);
        shown = h.shown;
        numbered = h.numbered;
        moments = h.moments;
        times = record { clock = h.times.clock; retired = h.times.retired; only = h.times.only; began = h.times.began; going = h.times.going };
        inside = λ i q is. elim (push_cases processes p i _ is) [
          | inl e ↦ h.inside i q e
          | inr e ↦ (new_reclaim (length pages) q (subst (IsNew (length pages)) (sym e.1) next)).0
        ];
        reclaiming = λ i q is. elim (push_cases processes p i _ is) [
          | inl e ↦ subst (λ (r : Run). IsReclaiming events (suc i) q.page r.time q.stage) (sym (put.others (name_of (suc i)) (name_differs i n (λ f. (let l = slice_get_within processes i _ e in omega (arith, f, l)))))) (h.reclaiming i q e)
          | inr e ↦ rw (new_reclaim (length pages) q (subst (IsNew (length pages)) (sym e.1) next)).1 tt
        ];
        releases = h.releases;
      },
      ([], sym (append-nil old.trail)),
      λ x far. refl,
    )
