use Rattle.std.proofs.Common.{◌<◌, ◌≤◌, ◌^◌, ℕ, List, ◌++◌, length}
use Rattle.std.specs.Io.KnownBytes.{Consumes, Appends}
use Rattle.bl_claims.specs.Trails.{Trail}
use Rattle.std.specs.Prelude.{◌↔◌}
use Rattle.bl_outside.specs.Crashes.{FindsOnly}
use Rattle.bl_index.specs.Calls.{first_of, map_after}
use Rattle.bl_serve_ground.specs.Together.{seen_by}
use Rattle.bl_serve_ground.specs.Standing.{StandsAt, index_in, map_in, sizes_in}
use Rattle.bl_serve.specs.Surviving.{Survives}
use Rattle.bl_serve.proofs.Advance.{Progress}
use Rattle.bl_serve.proofs.serving.serve_sections.Given as goal

abbrev pub invariant-loop-section : goal.invariant-loop-section
invariant-loop-section g l = record {
  input : List ℕ;
  output : List ℕ;
  seen : Trail;
  consumed : Consumes (g.R.Read.remaining l.fn.reader.inner) (g.R.Read.remaining l.reader.inner) (input ++ l.ahead.source);
  wrote : Appends (g.O.Outside.printed l.fn.outside) (g.O.Outside.printed l.outside) output;
  progress : Progress l.service.sections (sizes_in l.fn.session.ground) (seen_by l.fn.session.passes.items) seen l.session.totals input output;
  stands : StandsAt l.fn.session.ground (sizes_in l.fn.session.ground) seen l.session.ground l.session.passes.items;
  room : l.session.totals.requests < 2 ^ 64;
  number : l._section ≤ l.session.totals.requests;
  modelled : g.O.Outside.is_modelled l.fn.outside ↔ g.O.Outside.is_modelled l.outside;
  holds : g.O.Outside.is_modelled l.fn.outside → g.O.Outside.holds l.outside (map_after (first_of (index_in l.fn.session.ground)) seen);
  survives : g.O.Outside.is_modelled l.fn.outside → FindsOnly g.O.Outside.moment g.O.Outside.finds l.fn.outside l.outside
      (Survives l.service.sections (sizes_in l.fn.session.ground) (map_in l.fn.session.ground l.fn.session.passes.items) (input ++ l.ahead.source) (g.O.Outside.printed l.fn.outside));
  flushed : 0 < l._section → g.O.Outside.is_flushed l.outside;
}
