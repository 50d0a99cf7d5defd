-- A text with lines of pages and the one without them, of the same turns.
use Rattle.std.proofs.Common.{ℕ, ◌≡◌, ◌++◌, Bool, true, false, Option, Some, None, List, [], slice_get, ap, sym, ◌∙◌, refl, subst, append_assoc, append-nil}
use Rattle.bl_page.specs.declared.page.Page.{Page as PageSpec}
use Rattle.bl_answers.specs.declared.answers.Answer.{Answer}
use Rattle.bl_replay_script.specs.declared.command.Command.{Command}
use Rattle.bl_replay_script.specs.declared.command.Command.TheVariants as command
use Rattle.bl_world.specs.declared.turns.Act.{Act}
use Rattle.bl_world.specs.declared.turns.Act.TheVariants as act
use Rattle.bl_world.specs.declared.turns.Event.{Event}
use Rattle.bl_world.specs.declared.turns.Turn.{Turn}
use Rattle.bl_world.specs.Views.{View}
use Rattle.bl_replay.specs.Texts.{event_line, answer_line}
use Rattle.bl_replay.specs.Pages.{page_line, page_line_if, act_page, put_text, AddsPages}
use Rattle.bl_replay.specs.Pages.AddsPages.{Nothing as Same, OfEvent, OfAnswer, OfPage}
use Rattle.bl_replay.specs.Plays.{Prints, PrintsChosen, PrintsTurns, PrintsSettling, Does, Plays, PlaysOut, new_answer}
use Rattle.bl_replay.specs.Plays.PrintsTurns.{Still, More}
use Rattle.bl_replay.specs.Plays.PrintsSettling.{Resting, Onward}
use Rattle.bl_replay.specs.Plays.Plays.{Nothing, Then}

-- one piece behind the other
behind : (p t q u : List ℕ) → AddsPages p t → AddsPages q u → AddsPages (p ++ q) (t ++ u)
behind p t q u a Same = subst (λ z. AddsPages (p ++ []) z) (sym (append-nil t)) (subst (λ z. AddsPages z t) (sym (append-nil p)) a)
behind p t q u a (OfEvent plain text e h) =
    subst (λ z. AddsPages (p ++ (plain ++ event_line e)) z) (append_assoc t text (event_line e))
    (subst (λ z. AddsPages z ((t ++ text) ++ event_line e)) (append_assoc p plain (event_line e))
    (OfEvent (p ++ plain) (t ++ text) e (behind p t plain text a h)))
behind p t q u a (OfAnswer plain text number s h) =
    subst (λ z. AddsPages (p ++ (plain ++ answer_line number s)) z) (append_assoc t text (answer_line number s))
    (subst (λ z. AddsPages z ((t ++ text) ++ answer_line number s)) (append_assoc p plain (answer_line number s))
    (OfAnswer (p ++ plain) (t ++ text) number s (behind p t plain text a h)))
behind p t q u a (OfPage plain text number x c h) =
    subst (λ z. AddsPages (p ++ plain) z) (append_assoc t text (page_line number x c))
    (OfPage (p ++ plain) (t ++ text) number x c (behind p t plain text a h))

-- the pieces of a turn
of_event : (e : Event) → AddsPages (event_line e) (event_line e)
of_event e = OfEvent [] [] e Same

of_page : (number x : ℕ) (c : Option PageSpec) → AddsPages [] (page_line_if number x c)
of_page number x None = Same
of_page number x (Some c) = OfPage [] [] number x c Same

of_act : (number : ℕ) (a : Act) (pages : List PageSpec) → AddsPages [] (act_page number a pages)
of_act number act.Begin pages = Same
of_act number act.End pages = Same
of_act number (act.Get x) pages = Same
of_act number (act.Put x) pages = of_page number x (slice_get pages x)
of_act number (act.Latch x) pages = Same
of_act number (act.Take x) pages = Same
of_act number (act.Open x) pages = Same
of_act number (act.Retire x) pages = Same
of_act number (act.Look q) pages = Same
of_act number (act.See x) pages = Same
of_act number (act.Release x) pages = Same
of_act number act.Miss pages = Same

of_answer : (number : ℕ) (before after : Option Answer) → AddsPages (new_answer number before after) (new_answer number before after)
of_answer number None None = Same
of_answer number None (Some a) = OfAnswer [] [] number a Same
of_answer number (Some b) after = Same

-- Of two texts the one that is wanted.
abbrev pick : Bool → List ℕ → List ℕ → List ℕ
pick true plain full = full
pick false plain full = plain

pick_more : (w : Bool) (p f q g : List ℕ) → pick w p f ++ pick w q g ≡ pick w (p ++ q) (f ++ g)
pick_more true p f q g = refl
pick_more false p f q g = refl

-- Both texts of what was done, of which the one that is wanted is this one.
record Both (does : Bool → List ℕ → Type 0) (w : Bool) (text : List ℕ) : Type 0 where
  plain : List ℕ
  full : List ℕ
  without : does false plain
  having : does true full
  adds : AddsPages plain full
  is : text ≡ pick w plain full

turn_picked : (w : Bool) (e : Event) (pages : List PageSpec) (line rest : List ℕ) → line ++ put_text w e pages ++ rest ≡ pick w (line ++ put_text false e pages ++ rest) (line ++ put_text true e pages ++ rest)
turn_picked true e pages line rest = refl
turn_picked false e pages line rest = refl

turn_both : (w : Bool) (v : View) (number : ℕ) (turn : Turn) (text : List ℕ) (v' : View) → Prints w v number turn text v' → Both (λ b t. Prints b v number turn t v') w text
turn_both w v number turn text v' h =
    let line = event_line h.event in
    let rest = new_answer number h.before h.after in
    record {
      plain = line ++ put_text false h.event v'.pages ++ rest;
      full = line ++ put_text true h.event v'.pages ++ rest;
      without = record { turned = h.turned; event = h.event; recorded = h.recorded; before = h.before; had = h.had; after = h.after; has = h.has; there = h.there; printed = refl };
      having = record { turned = h.turned; event = h.event; recorded = h.recorded; before = h.before; had = h.had; after = h.after; has = h.has; there = h.there; printed = refl };
      adds = behind (line ++ put_text false h.event v'.pages) (line ++ put_text true h.event v'.pages) rest rest
          (behind line line [] (act_page h.event.process h.event.act v'.pages) (of_event h.event) (of_act h.event.process h.event.act v'.pages))
          (of_answer number h.before h.after);
      is = h.printed ∙ turn_picked w h.event v'.pages line rest;
    }

chosen_both : (w : Bool) (v : View) (number : ℕ) (page : Option ℕ) (text : List ℕ) (v' : View) → PrintsChosen w v number page text v' → Both (λ b t. PrintsChosen b v number page t v') w text
chosen_both w v number page text v' (turn, chooses, h) =
    let both = turn_both w v number turn text v' h in
    record { plain = both.plain; full = both.full; without = (turn, chooses, both.without); having = (turn, chooses, both.having); adds = both.adds; is = both.is }

more_is : (w : Bool) (a b p f q g : List ℕ) → a ≡ pick w p f → b ≡ pick w q g → a ++ b ≡ pick w (p ++ q) (f ++ g)
more_is w a b p f q g d e = ap (λ z. z ++ b) d ∙ ap (λ z. pick w p f ++ z) e ∙ pick_more w p f q g

nothing_is : (w : Bool) → [] ≡ pick w [] []
nothing_is true = refl
nothing_is false = refl

turns_both : (w : Bool) (number : ℕ) (v : View) (count : ℕ) (text : List ℕ) (v' : View) → PrintsTurns w number v count text v' → Both (λ b t. PrintsTurns b number v count t v') w text
turns_both w number v count text v' Still = record { plain = []; full = []; without = Still; having = Still; adds = Same; is = nothing_is w }
turns_both w number v count text v' (More before old more mid last turns none one) =
    let a = turns_both w number v before old mid turns in
    let b = chosen_both w mid number None more last one in
    record {
      plain = a.plain ++ b.plain;
      full = a.full ++ b.full;
      without = More before a.plain b.plain mid last a.without none b.without;
      having = More before a.full b.full mid last a.having none b.having;
      adds = behind a.plain a.full b.plain b.full a.adds b.adds;
      is = more_is w old more a.plain a.full b.plain b.full a.is b.is;
    }

settling_both : (w : Bool) (v : View) (count : ℕ) (text : List ℕ) (v' : View) → PrintsSettling w v count text v' → Both (λ b t. PrintsSettling b v count t v') w text
settling_both w v count text v' Resting = record { plain = []; full = []; without = Resting; having = Resting; adds = Same; is = nothing_is w }
settling_both w v count text v' (Onward before number old more mid last turns go one) =
    let a = settling_both w v before old mid turns in
    let b = chosen_both w mid number None more last one in
    record {
      plain = a.plain ++ b.plain;
      full = a.full ++ b.full;
      without = Onward before number a.plain b.plain mid last a.without go b.without;
      having = Onward before number a.full b.full mid last a.having go b.having;
      adds = behind a.plain a.full b.plain b.full a.adds b.adds;
      is = more_is w old more a.plain a.full b.plain b.full a.is b.is;
    }

does_both : (w : Bool) (v : View) (c : Command) (text : List ℕ) (v' : View) → Does w v c text v' → Both (λ b t. Does b v c t v') w text
does_both w v (command.Start start) text v' (p, is, starts, none) =
    record { plain = []; full = []; without = (p, is, starts, refl); having = (p, is, starts, refl); adds = Same; is = none ∙ nothing_is w }
does_both w v (command.Turn number) text v' d = chosen_both w v number None text v' d
does_both w v (command.TurnAt number page) text v' d = chosen_both w v number (Some page) text v' d
does_both w v (command.Refuse number) text v' d = turn_both w v number _ text v' d
does_both w v (command.Run number most) text v' (count, few, turns, over) =
    let a = turns_both w number v count text v' turns in
    record { plain = a.plain; full = a.full; without = (count, few, a.without, over); having = (count, few, a.having, over); adds = a.adds; is = a.is }
does_both w v (command.Settle most) text v' (count, few, turns, over) =
    let a = settling_both w v count text v' turns in
    record { plain = a.plain; full = a.full; without = (count, few, a.without, over); having = (count, few, a.having, over); adds = a.adds; is = a.is }

plays_both : (w : Bool) (v : View) (commands : List Command) (text : List ℕ) (v' : View) → Plays w v commands text v' → Both (λ b t. Plays b v commands t v') w text
plays_both w v commands text v' Nothing = record { plain = []; full = []; without = Nothing; having = Nothing; adds = Same; is = nothing_is w }
plays_both w v commands text v' (Then done next old more mid last plays does) =
    let a = plays_both w v done old mid plays in
    let b = does_both w mid next more last does in
    record {
      plain = a.plain ++ b.plain;
      full = a.full ++ b.full;
      without = Then done next a.plain b.plain mid last a.without b.without;
      having = Then done next a.full b.full mid last a.having b.having;
      adds = behind a.plain a.full b.plain b.full a.adds b.adds;
      is = more_is w old more a.plain a.full b.plain b.full a.is b.is;
    }

pub left_out : (pages : ℕ) (commands : List Command) (text : List ℕ) → PlaysOut true pages commands text → (plain : List ℕ) × PlaysOut false pages commands plain × AddsPages plain text
left_out pages commands text (start, end, opening, plays, account) =
    let both = plays_both true start commands text end plays in
    (both.plain, (start, end, opening, both.without, account), subst (λ z. AddsPages both.plain z) (sym both.is) both.adds)

pub added : (pages : ℕ) (commands : List Command) (plain : List ℕ) → PlaysOut false pages commands plain → (text : List ℕ) × PlaysOut true pages commands text × AddsPages plain text
added pages commands plain (start, end, opening, plays, account) =
    let both = plays_both false start commands plain end plays in
    (both.full, (start, end, opening, both.having, account), subst (λ z. AddsPages z both.full) (sym both.is) both.adds)
