use Rattle.can_segment.proofs.deferred.Deferred.settle.Goals as goal

pub returns-then-outnumber-clause-holds : goal.returns-then-outnumber-clause-holds
returns-then-outnumber-clause-holds c = c.resume_all.ensures.holds c.args.bit

pub returns-clause-holds : goal.returns-clause-holds
returns-clause-holds c =
    let held = c.requires.holds in
    record {
      talkers_deferred = λ k m e is. let h = held.talkers_deferred k m e is in
          record {
            some_deferred = h.some_deferred;
            is_on = h.is_on;
            uneventful = h.uneventful;
            known = h.known;
            listening =
                h.listening;
          };
      controllers_deferred = λ k m e is. let h = held.controllers_deferred k m e is in
          record {
            some_deferred = h.some_deferred;
            is_on = h.is_on;
            uneventful = h.uneventful;
            known = h.known;
            listening =
                h.listening;
          };
      talkers_not_due = held.talkers_not_due;
      controllers_active = held.controllers_active;
      talkers_within = c.requires.talkers;
      controllers_within = c.requires.controllers;
      talkers_fit = held.talkers_fit;
      controllers_fit = held.controllers_fit;
    }
