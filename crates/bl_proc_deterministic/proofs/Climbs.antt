-- An insertion that posts goes on, and in one way.
use Rattle.std.proofs.Common.{ℕ, ◌≡◌, ◌+◌, ◌<◌, ◌≤◌, Option, Some, None, refl, sym, ap, ◌∙◌, subst, inl, inr, arith}
use Rattle.std.specs.Coded.{le_prop}
use mathlib.Core.HLevel.{is_prop→PathP}
use Rattle.bl_model.specs.declared.deciding.KeyWrite.{KeyWrite}
use Rattle.bl_page.specs.declared.page.Page.{Page}
use Rattle.bl_page.specs.Nodes.{node_of}
use Rattle.bl_proc_steps.specs.declared.acts.Seen.{Seen}
use Rattle.bl_proc_steps.specs.declared.acts.Seen.TheVariants as seen
use Rattle.bl_answers.specs.declared.answers.Hint.TheVariants as hint
use Rattle.bl_proc_routes.specs.declared.routes.Step.{Step}
use Rattle.bl_proc_routes.specs.declared.routes.Step.TheVariants.{Again, Right, Down, Here}
use Rattle.bl_proc_steps.specs.declared.approach.Approach.{Approach}
use Rattle.bl_proc_steps.specs.declared.approach.Approach.TheVariants as way
use Rattle.bl_proc_steps.specs.declared.edit.Outcome.{Outcome}
use Rattle.bl_proc_steps.specs.declared.edit.Outcome.TheVariants as outcome
use Rattle.bl_answers.specs.Thin.{thin_hint}
use Rattle.bl_proc_steps.specs.Given.{Gives}
use Rattle.bl_proc_writes.specs.declared.paths.Path.{Path}
use Rattle.bl_proc_writes.specs.declared.post.Post.{Post}
use Rattle.bl_proc_writes.specs.declared.post.PostStage.{PostStage}
use Rattle.bl_proc_writes.specs.declared.post.PostStage.TheVariants as post
use Rattle.bl_proc_writes.specs.declared.post.PostReply.{PostReply}
use Rattle.bl_proc_writes.specs.declared.post.PostReply.TheVariants as listed
use Rattle.bl_proc_writes.specs.declared.writing.Write.{Write}
use Rattle.bl_proc_writes.specs.declared.writing.Noted.{Noted}
use Rattle.bl_proc_writes.specs.declared.writing.WriteStage.{WriteStage}
use Rattle.bl_proc_writes.specs.declared.writing.WriteStage.TheVariants as write
use Rattle.bl_proc_writes.specs.declared.writing.WriteReply.{WriteReply}
use Rattle.bl_proc_writes.specs.declared.writing.WriteReply.TheVariants as written
use Rattle.bl_proc_writes.specs.declared.insert_post.InsertPost.{InsertPost}
use Rattle.bl_proc_writes.specs.declared.insert_post.Placing.{Placing}
use Rattle.bl_proc_writes.specs.declared.insert_post.ClimbStage.{ClimbStage}
use Rattle.bl_proc_writes.specs.declared.insert_post.ClimbStage.TheVariants.{Writing, Posting, Ending, Over}
use Rattle.bl_proc_writes.specs.declared.insert_post.Climbed.TheVariants.{Unsplit, Posted}
use Rattle.bl_proc.specs.declared.kinds.Proc.{Proc}
use Rattle.bl_proc.specs.declared.kinds.Proc.TheVariants as proc
use Rattle.bl_proc_writes.specs.Levels.{IsBelowTop, IsBelowTop-prop}
use Rattle.bl_proc_writes.specs.Paths.{page_at, noted, from_page, NotesBy, Notes}
use Rattle.bl_proc_writes.specs.Stands.{IsWriting, IsPosting, Stands, Stands-prop}
use Rattle.bl_proc_writes.specs.Writes.{write_reply, write_answer_in, WriteGoes}
use Rattle.bl_proc_writes.specs.Posts.{post_answer_in, PostGoes}
use Rattle.bl_proc_writes.specs.InsertPosts.{climb_next_in, climb_needs_in, climb_answer_in, WriteNotes, PostNotes, ClimbNotes, IsUnsplit, IsLast, ClimbGoes}
use Rattle.bl_proc.specs.Processes.{Takes}
use Rattle.bl_proc_writes.proofs.Below.{goes_below}
use Rattle.bl_proc_writes.proofs.Stepping.{goes_stands}
use Rattle.bl_proc_deterministic.specs.Courses.{GoesOn}
use Rattle.bl_proc_deterministic.specs.One.{One}
use Rattle.bl_proc_deterministic.proofs.Onwards.{leads_some, leads_one}
use Rattle.bl_proc_deterministic.proofs.Writings.{stage_one as write_one}
use Rattle.bl_proc_deterministic.proofs.Posts.{stage_one as post_one}
use Rattle.bl_proc_deterministic.proofs.KindCases.{WriteCase, write_case, PostCase, post_case}

-- What is noted.

stays : (old : Path) → One (λ (new : Path). new ≡ old)
stays old = record { new = old; goes = refl; only = λ other e. e }

by_step : (x : ℕ) (c : Page) (o : Step) (old : Path) → One (NotesBy x c o old)
by_step x c (Down y) old = record { new = noted (node_of c).shape.level x old; goes = refl; only = λ other e. e }
by_step x c Again old = stays old
by_step x c (Right y) old = stays old
by_step x c Here old = stays old

note_one : (level key : ℕ) (a : Approach) (what : Seen) (old : Path) → One (Notes level key a what old)
note_one level key (way.At x) (seen.Words c) old =
    let o = leads_some c key level in
    let n = by_step x c o.0 old in
    record { new = n.new; goes = (o.0, o.1, n.goes); only = λ other t. n.only other (subst (λ z. NotesBy x c z old other) (leads_one c key level t.0 o.0 t.1 o.1) t.2) }
note_one level key a what old = stays old

write_note : (key : ℕ) (a : WriteStage) (what : Seen) (old : Path) → One (WriteNotes key a what old)
write_note key (write.Coming a) what old = note_one 0 key a what old
write_note key a what old = stays old

post_note : (level key : ℕ) (a : PostStage) (what : Seen) (old : Path) → One (PostNotes level key a what old)
post_note level key (post.Coming a) what old = note_one level key a what old
post_note level key a what old = stays old

climb_note : (a : ClimbStage) (what : Seen) (old : Path) → One (ClimbNotes a what old)
climb_note (Writing w) what old = write_note w.key w.stage what old
climb_note (Posting p) what old = post_note p.level p.key p.stage what old
climb_note (Ending r) what old = stays old
climb_note (Over r) what old = stays old

-- A write, and a post, with the same fields are the same.

write_same : (a b : Write) → a.key ≡ b.key → a.write ≡ b.write → a.stage ≡ b.stage → a ≡ b
write_same a b key does stage = λ i. record { key = key i; write = does i; stage = stage i }

post_same : (a b : Post) → a.level ≡ b.level → a.key ≡ b.key → a.stage ≡ b.stage → a ≡ b
post_same a b level key stage = λ i. record {
  level = level i;
  key = key i;
  stage = stage i;
  least = is_prop→PathP (λ i. 0 < level i) (λ i. le_prop) a.least b.least i;
  most = is_prop→PathP (λ i. level i ≤ 12) (λ i. le_prop) a.most b.most i;
  below = is_prop→PathP (λ i. IsBelowTop (level i) (stage i)) (λ i. IsBelowTop-prop (level i) (stage i)) a.below b.below i;
}

write_end : (r s : WriteReply) → write.Ending r ≡ write.Ending s → r ≡ s
write_end r s e = cc

post_end : (r s : PostReply) → post.Ending r ≡ post.Ending s → r ≡ s
post_end r s e = cc

-- A leaf that was split is to be posted to level 1.

split_reply : (noted : Noted) (o : Outcome) (there : Option ℕ) (level separator : ℕ) → write_reply noted o ≡ written.Done there (Some (hint.Post level separator)) → level ≡ 1
split_reply noted outcome.Edited there level separator e = thin noted.thin e
  where
    thin : (low : Option ℕ) → written.Done noted.there (thin_hint 1 low) ≡ written.Done there (Some (hint.Post level separator)) → level ≡ 1
    thin None e = absurd cc
    thin (Some low) e = absurd cc
split_reply noted (outcome.SplitAt at) there level separator e = cc
split_reply noted outcome.Refused there level separator e = absurd cc

split_level : {key : ℕ} {does : KeyWrite} {a b : WriteStage} {what : Seen} (there : Option ℕ) (level separator : ℕ) → WriteCase key does a what b → b ≡ write.Ending (written.Done there (Some (hint.Post level separator))) → level ≡ 1
split_level there level separator (WriteCase.Began a t) e = absurd cc
split_level there level separator (WriteCase.Came a what b t) e = absurd cc
split_level there level separator (WriteCase.Kept x c y was l t) e = absurd cc
split_level there level separator (WriteCase.Changed x c noted d l t) e = absurd cc
split_level there level separator (WriteCase.Opened x was r t) e = absurd (let f : written.Done was None ≡ written.Done there (Some (hint.Post level separator)) = sym t ∙ write_end r _ e in cc)
split_level there level separator (WriteCase.Edited noted c what same d t) e = absurd cc
split_level there level separator (WriteCase.Finished noted c what r t) e = split_reply noted t.0 there level separator (sym t.2 ∙ write_end r _ e)
split_level there level separator (WriteCase.Ended r last t) e = absurd cc

-- a write that was not to end has not ended
not_over : (key : ℕ) (does : KeyWrite) (a : WriteStage) (what : Seen) (r : WriteReply) → IsWriting a → WriteGoes key does a what (write.Over r) → ⊥
not_over key does write.New seen.Done r i t = t
not_over key does (write.Coming a) what r i t = t.3
not_over key does (write.Keeping x there) seen.Done r i t = t
not_over key does (write.Editing noted c) what r i t = t
not_over key does (write.Ending q) what r i t = i
not_over key does (write.Over q) what r i t = i
not_over key does a what r i t = t

module _ (path : Path) (w : Write) (what : Seen) (b : WriteStage) (goes : WriteGoes w.key w.write w.stage what b) (only : (o : WriteStage) → WriteGoes w.key w.write w.stage what o → o ≡ b) where
  wrote_on : IsWriting b → One (ClimbGoes path (Writing w) what)
  wrote_on i = record { new = Writing v; goes = ((refl, refl, goes), i); only = to }
    where
      v : Write
      v = record { key = w.key; write = w.write; stage = b }

      to : (other : ClimbStage) → ClimbGoes path (Writing w) what other → other ≡ Writing v
      to (Writing u) t = ap Writing (write_same u v t.0.0 t.0.1 (only u.stage t.0.2))
      to (Posting p) t = absurd (subst IsWriting (sym (only _ t.3)) i)
      to (Ending last) t = absurd (subst IsWriting (sym (only _ t.1)) i)
      to (Over r) t = absurd t

  wrote_unsplit : (r : WriteReply) → b ≡ write.Ending r → IsUnsplit r → One (ClimbGoes path (Writing w) what)
  wrote_unsplit r e u = record { new = Ending (Unsplit r); goes = (r, subst (WriteGoes w.key w.write w.stage what) e goes, u, refl); only = to }
    where
      to : (other : ClimbStage) → ClimbGoes path (Writing w) what other → other ≡ Ending (Unsplit r)
      to (Writing v) t = absurd (subst IsWriting (only v.stage t.0.2 ∙ e) t.1)
      to (Posting p) t = absurd (subst IsUnsplit (sym (write_end _ r (only _ t.3 ∙ e))) u)
      to (Ending last) t = ap Ending (t.3 ∙ ap Unsplit (write_end t.0 r (only _ t.1 ∙ e)))
      to (Over q) t = absurd t

  wrote_split : (there : Option ℕ) (level separator : ℕ) → b ≡ write.Ending (written.Done there (Some (hint.Post level separator))) → One (ClimbGoes path (Writing w) what)
  wrote_split there level separator e = record { new = Posting p; goes = (there, level, separator, subst (WriteGoes w.key w.write w.stage what) e goes, (refl, refl, refl)); only = to }
    where
      one : level ≡ 1
      one = split_level there level separator (write_case w.key w.write w.stage what b goes) e

      p : Post
      p = record { level = level; key = separator; stage = post.Coming (from_page (page_at path level)); least = omega (arith, one); most = omega (arith, one); below = tt }

      level_of_reply : (was : Option ℕ) (l s : ℕ) → written.Done was (Some (hint.Post l s)) ≡ written.Done there (Some (hint.Post level separator)) → l ≡ level
      level_of_reply was l s e = cc

      key_of_reply : (was : Option ℕ) (l s : ℕ) → written.Done was (Some (hint.Post l s)) ≡ written.Done there (Some (hint.Post level separator)) → s ≡ separator
      key_of_reply was l s e = cc

      to : (other : ClimbStage) → ClimbGoes path (Writing w) what other → other ≡ Posting p
      to (Writing v) t = absurd (subst IsWriting (only v.stage t.0.2 ∙ e) t.1)
      to (Posting q) (was, l, s, t, u) =
          let f = write_end _ _ (only _ t ∙ e) in
          let at = level_of_reply was l s f in
          ap Posting (post_same q p (u.0 ∙ at) (u.1 ∙ key_of_reply was l s f) (u.2 ∙ ap (λ z. post.Coming (from_page (page_at path z))) at))
      to (Ending last) t = absurd (subst IsUnsplit (write_end t.0 _ (only _ t.1 ∙ e)) t.2)
      to (Over q) t = absurd t

wrote_by : (path : Path) (w : Write) (what : Seen) (b : WriteStage) → WriteGoes w.key w.write w.stage what b → ((o : WriteStage) → WriteGoes w.key w.write w.stage what o → o ≡ b) → IsWriting w.stage → One (ClimbGoes path (Writing w) what)
wrote_by path w what (write.Ending (written.Done there (Some (hint.Post level separator)))) goes only i = wrote_split path w what _ goes only there level separator refl
wrote_by path w what (write.Ending (written.Done there (Some (hint.Thin level key)))) goes only i = wrote_unsplit path w what _ goes only _ refl tt
wrote_by path w what (write.Ending (written.Done there None)) goes only i = wrote_unsplit path w what _ goes only _ refl tt
wrote_by path w what (write.Ending written.NoRoom) goes only i = wrote_unsplit path w what _ goes only _ refl tt
wrote_by path w what (write.Over r) goes only i = absurd (not_over w.key w.write w.stage what r i goes)
wrote_by path w what write.New goes only i = wrote_on path w what _ goes only tt
wrote_by path w what (write.Coming a) goes only i = wrote_on path w what _ goes only tt
wrote_by path w what (write.Keeping x there) goes only i = wrote_on path w what _ goes only tt
wrote_by path w what (write.Editing noted c) goes only i = wrote_on path w what _ goes only tt

-- A post that had begun, and was not to end, is not to begin and has not ended.
abbrev IsOn : PostStage → Type 0
IsOn post.New = ⊥
IsOn (post.Over r) = ⊥
IsOn stage = Unit {0}

goes_on : {level key : ℕ} {a b : PostStage} {what : Seen} → PostCase level key a what b → IsPosting a → IsOn b
goes_on (PostCase.Ended r last t) i = absurd i
goes_on other i = tt

module _ (path : Path) (p : Post) (what : Seen) (b : PostStage) (goes : PostGoes p.level p.key p.stage what b) (only : (o : PostStage) → PostGoes p.level p.key p.stage what o → o ≡ b) where
  posted_on : IsPosting b → One (ClimbGoes path (Posting p) what)
  posted_on i = record { new = Posting q; goes = inl ((refl, refl, goes), i); only = to }
    where
      q : Post
      q = record { level = p.level; key = p.key; stage = b; least = p.least; most = p.most; below = goes_below p.level p.key p.stage what b p.below goes }

      to : (other : ClimbStage) → ClimbGoes path (Posting p) what other → other ≡ Posting q
      to (Writing v) t = absurd t
      to (Posting r) (inl t) = ap Posting (post_same r q t.0.0 t.0.1 (only r.stage t.0.2))
      to (Posting r) (inr t) = absurd (subst IsPosting (sym (only _ t.1)) i)
      to (Ending last) t = absurd (subst IsPosting (sym (only _ t.1)) i)
      to (Over r) t = absurd t

  posted_last : (r : PostReply) → b ≡ post.Ending r → IsLast r → One (ClimbGoes path (Posting p) what)
  posted_last r e u = record { new = Ending (Posted p.level p.key r); goes = (r, subst (PostGoes p.level p.key p.stage what) e goes, u, refl); only = to }
    where
      to : (other : ClimbStage) → ClimbGoes path (Posting p) what other → other ≡ Ending (Posted p.level p.key r)
      to (Writing v) t = absurd t
      to (Posting q) (inl t) = absurd (subst IsPosting (only q.stage t.0.2 ∙ e) t.1)
      to (Posting q) (inr t) = absurd (subst IsLast (sym (post_end _ r (only _ t.1 ∙ e))) u)
      to (Ending last) t = ap Ending (t.3 ∙ ap (Posted p.level p.key) (post_end t.0 r (only _ t.1 ∙ e)))
      to (Over q) t = absurd t

  posted_higher : (separator : ℕ) → b ≡ post.Ending (listed.Done (Some separator)) → One (ClimbGoes path (Posting p) what)
  posted_higher separator e = record { new = Posting q; goes = inr (separator, split, (refl, refl, refl)); only = to }
    where
      split : PostGoes p.level p.key p.stage what (post.Ending (listed.Done (Some separator)))
      split = subst (PostGoes p.level p.key p.stage what) e goes

      few : p.level < 12
      few = goes_below p.level p.key p.stage what (post.Ending (listed.Done (Some separator))) p.below split

      q : Post
      q = record { level = p.level + 1; key = separator; stage = post.Coming (from_page (page_at path (p.level + 1))); least = omega arith; most = omega (arith, few); below = tt }

      key_of_reply : (s : ℕ) → listed.Done (Some s) ≡ listed.Done (Some separator) → s ≡ separator
      key_of_reply s e = cc

      to : (other : ClimbStage) → ClimbGoes path (Posting p) what other → other ≡ Posting q
      to (Writing v) t = absurd t
      to (Posting r) (inl t) = absurd (subst IsPosting (only r.stage t.0.2 ∙ e) t.1)
      to (Posting r) (inr t) = ap Posting (post_same r q t.2.0 (t.2.1 ∙ key_of_reply t.0 (post_end _ _ (only _ t.1 ∙ e))) t.2.2)
      to (Ending last) t = absurd (subst IsLast (post_end t.0 _ (only _ t.1 ∙ e)) t.2)
      to (Over r) t = absurd t

posted_by : (path : Path) (p : Post) (what : Seen) (b : PostStage) → PostGoes p.level p.key p.stage what b → ((o : PostStage) → PostGoes p.level p.key p.stage what o → o ≡ b) → IsOn b → One (ClimbGoes path (Posting p) what)
posted_by path p what post.New goes only i = absurd i
posted_by path p what (post.Coming a) goes only i = posted_on path p what _ goes only tt
posted_by path p what (post.Growing g) goes only i = posted_on path p what _ goes only tt
posted_by path p what (post.Walking w) goes only i = posted_on path p what _ goes only tt
posted_by path p what (post.Editing c) goes only i = posted_on path p what _ goes only tt
posted_by path p what (post.Staying x r) goes only i = posted_on path p what _ goes only tt
posted_by path p what (post.Ending (listed.Done (Some separator))) goes only i = posted_higher path p what _ goes only separator refl
posted_by path p what (post.Ending (listed.Done None)) goes only i = posted_last path p what _ goes only _ refl tt
posted_by path p what (post.Ending listed.Already) goes only i = posted_last path p what _ goes only _ refl tt
posted_by path p what (post.Ending listed.Stale) goes only i = posted_last path p what _ goes only _ refl tt
posted_by path p what (post.Ending listed.NoRoom) goes only i = posted_last path p what _ goes only _ refl tt
posted_by path p what (post.Ending listed.TooTall) goes only i = posted_last path p what _ goes only _ refl tt
posted_by path p what (post.Over r) goes only i = absurd i

-- what still writes or posts has no answer
write_runs : (does : KeyWrite) (a : WriteStage) → IsWriting a → write_answer_in does a ≡ None
write_runs does write.New i = refl
write_runs does (write.Coming a) i = refl
write_runs does (write.Keeping x there) i = refl
write_runs does (write.Editing noted c) i = refl
write_runs does (write.Ending r) i = refl
write_runs does (write.Over r) i = absurd i

post_runs : (level : ℕ) (a : PostStage) → IsPosting a → post_answer_in level a ≡ None
post_runs level post.New i = refl
post_runs level (post.Coming a) i = refl
post_runs level (post.Growing g) i = refl
post_runs level (post.Walking w) i = refl
post_runs level (post.Editing c) i = refl
post_runs level (post.Staying x r) i = refl
post_runs level (post.Ending r) i = refl
post_runs level (post.Over r) i = absurd i

climb_one : (key : ℕ) (placing : Placing) (before path : Path) (a : ClimbStage) (what : Seen) → Stands key placing before a → climb_answer_in placing a ≡ None → Gives (climb_next_in a) (climb_needs_in a) what → One (ClimbGoes path a what)
climb_one key placing before path (Writing w) what h running given =
    let g = write_one w.key w.write w.stage what (write_runs w.write w.stage h.2) given in
    wrote_by path w what g.new g.goes g.only h.2
climb_one key placing before path (Posting p) what h running given =
    let g = post_one p.level p.key p.least p.stage what (post_runs p.level p.stage h) given in
    posted_by path p what g.new g.goes g.only (goes_on (post_case p.level p.key p.stage what g.new g.goes) h)
climb_one key placing before path (Ending r) seen.Done h running given = record { new = Over r; goes = refl; only = λ b t. over b t }
  where
    over : (b : ClimbStage) → ClimbGoes path (Ending r) seen.Done b → b ≡ Over r
    over (Writing v) t = absurd t
    over (Posting p) t = absurd t
    over (Ending last) t = absurd t
    over (Over last) t = ap Over t
climb_one key placing before path (Over r) what h running given = (let z : Some _ ≡ None = running in cc)
climb_one key placing before path a what h running given = absurd given

climb_only : (old : InsertPost) (what : Seen) (n : One (ClimbNotes old.stage what old.path)) (g : One (ClimbGoes n.new old.stage what)) (other : Proc) → Takes (proc.InsertPost old) what other
    → other ≡ proc.InsertPost (record { key = old.key; placing = old.placing; path = n.new; stage = g.new; stands = goes_stands old.key old.placing old.path n.new old.stage what g.new old.stands g.goes })
climb_only old what n g (proc.InsertPost f) t =
    let along = n.only f.path t.2 in
    let to = g.only f.stage (subst (λ z. ClimbGoes z old.stage what f.stage) along t.3) in
    λ i. proc.InsertPost (record {
      key = t.0 i;
      placing = t.1 i;
      path = along i;
      stage = to i;
      stands = is_prop→PathP (λ i. Stands (t.0 i) (t.1 i) (along i) (to i)) (λ i. Stands-prop (t.0 i) (t.1 i) (along i) (to i)) f.stands (goes_stands old.key old.placing old.path n.new old.stage what g.new old.stands g.goes) i;
    })
climb_only old what n g new t = absurd t

pub climb_goes : (old : InsertPost) (what : Seen) → climb_answer_in old.placing old.stage ≡ None → Gives (climb_next_in old.stage) (climb_needs_in old.stage) what → GoesOn (proc.InsertPost old) what
climb_goes old what running given =
    let n = climb_note old.stage what old.path in
    let g = climb_one old.key old.placing old.path n.new old.stage what old.stands running given in
    record {
      new = proc.InsertPost (record { key = old.key; placing = old.placing; path = n.new; stage = g.new; stands = goes_stands old.key old.placing old.path n.new old.stage what g.new old.stands g.goes });
      takes = (refl, refl, n.goes, g.goes);
      only = climb_only old what n g;
    }
