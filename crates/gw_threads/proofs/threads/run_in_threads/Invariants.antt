use Rattle.gw_threads.proofs.threads.run_in_threads.Given as goal

-- what is dealt are the routes that were given
abbrev pub ghosts-run_dealt : goal.ghosts-run_dealt
ghosts-run_dealt g a = record { dealt = a.couriers.items }
