-- What an insertion that posts has done, and one event more: what is told of it in the next state, and what its answer means.
use Rattle.std.proofs.Common.{ℕ, ◌≡◌, ◌≢◌, ◌+◌, ◌++◌, zero, suc, List, [], ◌∷◌, Option, None, Some, Contains, ap, sym, ◌∙◌, refl, subst, append_assoc, append-nil}
use Rattle.std.proofs.lemmas.List.Elements.{Contains-append_left}
use Rattle.bl_model.specs.declared.operation.Reply.{Reply}
use Rattle.bl_model.specs.declared.deciding.Effect.TheVariants.{Enter}
use Rattle.bl_model.specs.Writes.{effect_of}
use Rattle.bl_page.specs.declared.page.Page.{Page}
use Rattle.bl_page.specs.Machine.{Act}
use Rattle.bl_page.specs.Machine.Act.{Begin, Get}
use Rattle.bl_claims.specs.Trails.{Mark, Trail}
use Rattle.bl_claims.specs.Meanings.{writes_in, HasRaised, RaisesOnly, WroteHeld, MeansDone}
use Rattle.bl_proc_steps.specs.declared.acts.Seen.{Seen}
use Rattle.bl_proc_steps.specs.declared.acts.Seen.TheVariants as seen
use Rattle.bl_answers.specs.declared.answers.Hint.{Hint}
use Rattle.bl_answers.specs.declared.answers.Hint.TheVariants as hint
use Rattle.bl_answers.specs.declared.answers.Posted.{Posted}
use Rattle.bl_answers.specs.declared.answers.Posted.TheVariants as posted
use Rattle.bl_proc_writes.specs.declared.paths.Path.{Path}
use Rattle.bl_proc_writes.specs.declared.post.Post.{Post}
use Rattle.bl_proc_writes.specs.declared.post.PostReply.{PostReply}
use Rattle.bl_proc_writes.specs.declared.post.PostReply.TheVariants as listed
use Rattle.bl_proc_writes.specs.declared.post.PostStage.{PostStage}
use Rattle.bl_proc_writes.specs.declared.post.PostStage.TheVariants as post
use Rattle.bl_proc_writes.specs.declared.writing.Write.{Write}
use Rattle.bl_proc_writes.specs.declared.writing.WriteStage.{WriteStage}
use Rattle.bl_proc_writes.specs.declared.insert_post.Climbed.{Climbed}
use Rattle.bl_proc_writes.specs.declared.insert_post.Climbed.TheVariants as climbed
use Rattle.bl_proc_writes.specs.declared.insert_post.ClimbStage.{ClimbStage}
use Rattle.bl_proc_writes.specs.declared.insert_post.ClimbStage.TheVariants as climb
use Rattle.bl_proc_writes.specs.Paths.{page_at, from_page}
use Rattle.bl_proc_writes.specs.Stands.{Stands}
use Rattle.bl_proc_writes.specs.InsertPosts.{posted_as, IsLast, climb_next_in}
use Rattle.bl_answers.specs.Hints.{left_hint, post_hint}
use Rattle.bl_proc_writes.specs.Writes.{write_next_in}
use Rattle.bl_claims.specs.Hinted.{WroteLeaf}
use Rattle.bl_claims.specs.Answers.{MeansPosted}
use Rattle.bl_claims.specs.Climbed.{PostsUp, WroteAndPosted}
use Rattle.bl_tree_worlds.proofs.Meant.{done_on, already_on, stale_on, tall_on, no_room_on}
use Rattle.bl_proc_invariant.specs.Turns.{event_of}
use Rattle.bl_proc_invariant.specs.Knowing.{write_end, climb_end}
use Rattle.bl_proc_invariant.specs.Logs.{approach_log, reply_log, post_log, effect_log, write_log, IsPostingOn, climbed_log, climb_log}
use Rattle.bl_proc_invariant.proofs.Logging.{post_on, post_stays}
use Rattle.bl_proc_invariant.proofs.Putting.{written_stays, write_on, write_stays}
use Rattle.bl_proc_deterministic.proofs.KindCases.{WriteCase, PostCase, ClimbCase}
use Rattle.bl_proc_writes.specs.declared.insert_post.Placing.{Placing}
use Rattle.bl_proc_writes.specs.declared.insert_post.Placing.TheVariants as place
use Rattle.bl_proc_writes.specs.Placings.{write_of}

-- Where the leaf was split

-- It has begun, and written back its leaf in two; the hint is to post the separator to level 1.
record HasSplit (level separator : ℕ) (marks : Trail) : Type 0 where
  pub first : level ≡ 1
  pub leaf : WroteLeaf (Some separator) marks

one_post : (level separator : ℕ) (split : Option ℕ) → Some (hint.Post level separator) ≡ post_hint 1 split → (level ≡ 1) × (split ≡ Some separator)
one_post level separator None e = absurd (let f = e in cc)
one_post level separator (Some other) e = (let f : hint.Post level separator ≡ hint.Post 1 other = cc in (level_is level separator other f, ap Some (separator_is level separator other f)))
  where
    level_is : (level separator other : ℕ) → hint.Post level separator ≡ hint.Post 1 other → level ≡ 1
    level_is level separator other f = cc

    separator_is : (level separator other : ℕ) → hint.Post level separator ≡ hint.Post 1 other → other ≡ separator
    separator_is level separator other f = cc

entered_split : (value level separator : ℕ) (marks : Trail) → effect_log (Enter value) (Some (hint.Post level separator)) marks → HasSplit level separator marks
entered_split value level separator marks log =
    let one = one_post level separator log.0 log.2 in
    record { first = one.0; leaf = subst (λ z. WroteLeaf z marks) one.1 log.1 }

has_split : (placing : Placing) (there : Option ℕ) (level separator : ℕ) (marks : Trail) → effect_log (effect_of (write_of placing) there) (Some (hint.Post level separator)) marks → HasSplit level separator marks
has_split (place.Insert value) None level separator marks log = entered_split value level separator marks log
has_split (place.Insert value) (Some other) level separator marks log = absurd (let f = log.1 in cc)
has_split (place.Put value) None level separator marks log = entered_split value level separator marks log
has_split (place.Put value) (Some other) level separator marks log = absurd (let f = log.3 in cc)

has_begin : {x : ℕ} {acts : List (Act Page Reply)} {marks : Trail} (h : WroteHeld marks x acts) → Contains marks h.first.0.0
has_begin h = subst (λ z. Contains z h.first.0.0) (sym h.split) (Contains-append_left h.before (h.latch ∷ h.since) h.first.0.0 h.first.0.1)

-- a post that begins has written nothing since
from_log : (level x : ℕ) (begin : Mark) → begin.event.act ≡ Begin → approach_log level (from_page x) (begin ∷ [])
from_log level x begin begun = by_page x
  where
    raised : HasRaised level (begin ∷ [])
    raised = record { earlier = []; begin = begin; since = []; split = refl; begun = begun; is = RaisesOnly.Never }

    by_page : (x : ℕ) → approach_log level (from_page x) (begin ∷ [])
    by_page zero = raised
    by_page (suc x) = raised

split_on : (placing : Placing) (level separator : ℕ) (q : Post) (path : Path) (marks : Trail) → HasSplit level separator marks → (q.level ≡ level) × (q.key ≡ separator) × (q.stage ≡ post.Coming (from_page (page_at path level))) → IsPostingOn (post_log q.level q.key q.stage) q.level q.key marks
split_on placing level separator q path marks h t =
    let held = h.leaf.3 in
    let begun = held.first.0.2 in
    rw (t.0, t.1, t.2) (record {
      begin = held.first.0.0;
      begun = begun;
      before = marks;
      rest = [];
      split = sym (append-nil marks);
      does = from_log level (page_at path level) held.first.0.0 begun;
      whole = λ a left more posts. record {
        begin = held.first.0.0;
        begun = begun;
        first = marks;
        rest = more;
        split = refl;
        own = has_begin held;
        separator = separator;
        wrote = (Some separator, h.leaf, refl);
        posts = subst (λ l. PostsUp held.first.0.0 a left l separator more) h.first posts;
      };
    })

-- what the last post has come to
last_means : (level key : ℕ) (r : PostReply) (marks : Trail) → IsLast r → reply_log level key r marks → MeansPosted level key (posted_as r) None marks
last_means level key (listed.Done None) marks l h = (None, h, refl)
last_means level key (listed.Done (Some separator)) marks l h = absurd l
last_means level key listed.Already marks l h = (h, refl)
last_means level key listed.Stale marks l h = (h, refl)
last_means level key listed.NoRoom marks l h = (h, refl)
last_means level key listed.TooTall marks l h = (h, refl)

module _ (marks : Trail) (m : Mark) where
  abbrev more : Trail
  more = marks ++ m ∷ []

  split_more : {Does : Trail → Type 0} {level key : ℕ} (h : IsPostingOn Does level key marks) → more ≡ h.before ++ (h.rest ++ m ∷ [])
  split_more h = ap (λ z. z ++ m ∷ []) h.split ∙ append_assoc h.before h.rest (m ∷ [])

  posting_on : {Does Then : Trail → Type 0} {level key : ℕ} (h : IsPostingOn Does level key marks) → Then (h.begin ∷ (h.rest ++ m ∷ [])) → IsPostingOn Then level key more
  posting_on h does = record { begin = h.begin; begun = h.begun; before = h.before; rest = h.rest ++ m ∷ []; split = split_more h; does = does; whole = h.whole }

  higher_on : {Does : Trail → Type 0} {level key : ℕ} (separator : ℕ) (q : Post) (path : Path) (h : IsPostingOn Does level key marks) → MeansDone level key (Some separator) (h.begin ∷ (h.rest ++ m ∷ [])) → (q.level ≡ level + 1) × (q.key ≡ separator) × (q.stage ≡ post.Coming (from_page (page_at path (level + 1)))) → IsPostingOn (post_log q.level q.key q.stage) q.level q.key more
  higher_on {level = level} {key = key} separator q path h means t =
      let done = h.rest ++ m ∷ [] in
      rw (t.0, t.1, t.2) (record {
        begin = h.begin;
        begun = h.begun;
        before = h.before ++ done;
        rest = [];
        split = split_more h ∙ sym (append-nil (h.before ++ done));
        does = from_log (level + 1) (page_at path (level + 1)) h.begin h.begun;
        whole = λ a left after posts. subst (WroteAndPosted a left) (sym (append_assoc h.before done after)) (h.whole a left (done ++ after) (PostsUp.Higher level key separator done after means posts));
      })

  last_on : {Does : Trail → Type 0} {level key : ℕ} (r : PostReply) (h : IsPostingOn Does level key marks) → IsLast r → reply_log level key r (h.begin ∷ (h.rest ++ m ∷ [])) → WroteAndPosted (posted_as r) (left_hint level key (posted_as r)) more
  last_on {level = level} {key = key} r h l log =
      let done = h.rest ++ m ∷ [] in
      let means = last_means level key r (h.begin ∷ done) l log in
      subst (WroteAndPosted (posted_as r) (left_hint level key (posted_as r))) (sym (split_more h)) (h.whole (posted_as r) (left_hint level key (posted_as r)) done (PostsUp.Last level key done means refl))

  -- A mark that writes nothing
  module _ (quiet : writes_in m.event.act ≡ []) where
    means_stays : (begin : Mark) (part : Trail) (level key : ℕ) (a : Posted) → MeansPosted level key a None (begin ∷ part) → MeansPosted level key a None (begin ∷ (part ++ m ∷ []))
    means_stays begin part level key posted.Done h = (h.0, done_on (begin ∷ part) m quiet h.1, h.2)
    means_stays begin part level key posted.Already h = (already_on (begin ∷ part) m quiet h.0, h.1)
    means_stays begin part level key posted.Stale h = (stale_on (begin ∷ part) m quiet h.0, h.1)
    means_stays begin part level key posted.NoRoom h = (no_room_on (begin ∷ part) m quiet h.0, h.1)
    means_stays begin part level key posted.TooTall h = (tall_on (begin ∷ part) m quiet h.0, h.1)

    posts_stay : {begin : Mark} {a : Posted} {left : Option Hint} {level key : ℕ} {part : Trail} → PostsUp begin a left level key part → PostsUp begin a left level key (part ++ m ∷ [])
    posts_stay {begin} {a} {left} (PostsUp.Last level key part means is) = PostsUp.Last level key (part ++ m ∷ []) (means_stays begin part level key a means) is
    posts_stay {begin} {a} {left} (PostsUp.Higher level key separator part after means up) =
        subst (PostsUp begin a left level key) (sym (append_assoc part after (m ∷ []))) (PostsUp.Higher level key separator part (after ++ m ∷ []) means (posts_stay up))

    whole_stays : {a : Posted} {left : Option Hint} → WroteAndPosted a left marks → WroteAndPosted a left more
    whole_stays h = record {
      begin = h.begin;
      begun = h.begun;
      first = h.first;
      rest = h.rest ++ m ∷ [];
      split = ap (λ z. z ++ m ∷ []) h.split ∙ append_assoc h.first h.rest (m ∷ []);
      own = h.own;
      separator = h.separator;
      wrote = h.wrote;
      posts = posts_stay h.posts;
    }

    climbed_stays : (placing : Placing) (r : Climbed) → climbed_log placing r marks → climbed_log placing r more
    climbed_stays placing (climbed.Unsplit r) h = (written_stays marks m quiet (write_of placing) r h.0, h.1)
    climbed_stays placing (climbed.Posted level key r) h = whole_stays h

    pub climb_stays : ((x : ℕ) → m.event.act ≢ Act.Open x) → (placing : Placing) (a : ClimbStage) → climb_log placing a marks → climb_log placing a more
    climb_stays shut placing (climb.Writing w) h = write_stays marks m quiet (write_of placing) w.stage h
    climb_stays shut placing (climb.Posting q) h = posting_on h (post_stays (h.begin ∷ h.rest) m q.level q.key q.least quiet shut q.stage h.does)
    climb_stays shut placing (climb.Ending r) h = climbed_stays placing r h
    climb_stays shut placing (climb.Over r) h = climbed_stays placing r h

  -- any turn
  write_within : (key : ℕ) (placing : Placing) (path : Path) (v : Write) → Stands key placing path (climb.Writing v) → {b : WriteStage} {what : Seen} → WriteCase v.key v.write v.stage what b → m.event.act ≡ event_of (write_end (write_of placing) v.stage) (write_next_in v.stage) what → write_log (write_of placing) v.stage marks → write_log (write_of placing) b more
  write_within key placing path v stands {b} {what} h did log = write_on marks m (subst (λ d. WriteCase v.key d v.stage what b) stands.1 h) did log

  post_within : (q : Post) {b : PostStage} {what : Seen} → PostCase q.level q.key q.stage what b → m.event.act ≡ event_of None (climb_next_in (climb.Posting q)) what → ((x : ℕ) (c : Page) → m.event.act ≡ Get x → what ≡ seen.Words c → m.saw ≡ Some c) → (h : IsPostingOn (post_log q.level q.key q.stage) q.level q.key marks) → post_log q.level q.key b (h.begin ∷ (h.rest ++ m ∷ []))
  post_within q case did saw h = post_on (h.begin ∷ h.rest) m q.level q.key q.least case did saw h.does

  pub climb_on : (key : ℕ) (placing : Placing) (old new : Path) {a b : ClimbStage} {what : Seen} → ClimbCase new a what b → Stands key placing old a → m.event.act ≡ event_of (climb_end placing a) (climb_next_in a) what → ((x : ℕ) (c : Page) → m.event.act ≡ Get x → what ≡ seen.Words c → m.saw ≡ Some c) → climb_log placing a marks → climb_log placing b more
  climb_on key placing old new (ClimbCase.Wrote v what u h t) stands did saw log = write_within key placing old v stands h did log
  climb_on key placing old new (ClimbCase.Split v what there level separator q h t) stands did saw log = split_on placing level separator q new more (has_split placing there level separator more (write_within key placing old v stands h did log)) t
  climb_on key placing old new (ClimbCase.Unsplit v what r last h t) stands did saw log = rw t.1 (write_within key placing old v stands h did log, t.0)
  climb_on key placing old new (ClimbCase.Posted q what u h t) stands did saw log = rw (t.0, t.1) (posting_on log (post_within q h did saw log))
  climb_on key placing old new (ClimbCase.Higher q what separator u h t) stands did saw log = higher_on separator u new log (post_within q h did saw log) t
  climb_on key placing old new (ClimbCase.Finished q what r last h t) stands did saw log = rw t.1 (last_on r log t.0 (post_within q h did saw log))
  climb_on key placing old new (ClimbCase.Ended r last t) stands did saw log = rw t (climbed_stays (ap writes_in did) placing r log)
