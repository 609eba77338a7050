use Rattle.run_trials.proofs.keepers.happens.Goals as goal

pub event_with-requires-clause-takes : goal.event_with-requires-clause-takes
event_with-requires-clause-takes c = λ k d within. record { all = λ t i below of fits. tt }
