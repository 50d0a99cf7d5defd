-- Of which map a worker is.
use Rattle.bl_map.specs.declared.map.Map.{Map}
use Rattle.bl_map.specs.Maps.{IsHandleOf}
use Rattle.bench_map.specs.declared.record.Worker.{Worker}

abbrev pub IsOf : Map → Worker → Type 0
IsOf map worker = IsHandleOf map worker.handle
