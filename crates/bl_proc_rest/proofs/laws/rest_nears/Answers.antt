use Rattle.bl_proc_rest.proofs.Resting.{rests_few, rests_falls}
use Rattle.bl_proc_rest.proofs.Levels.{put_falls, puts_kept}
use Rattle.bl_proc_rest.proofs.laws.rest_nears.Goals as goal

pub returns-clause-few : goal.returns-clause-few
returns-clause-few c = λ w p count g counted. rests_few w p count g counted

pub returns-clause-falls : goal.returns-clause-falls
returns-clause-falls c = λ w next p what count turns g g' logs size same t observed none sees missed r. rests_falls w next p what count turns g g' logs size same t observed none sees missed r

pub returns-clause-puts : goal.returns-clause-puts
returns-clause-puts c = λ w next p x page g is t put rest. put_falls w next p x page g is t put rest

pub returns-clause-kept : goal.returns-clause-kept
returns-clause-kept c = λ old new what t none. puts_kept old new what t none
