-- The faults of a run, by those of its threads.
use Rattle.gw_threads.specs.declared.thread_fault.ThreadFault.{ThreadFault}
use Rattle.gw_threads.specs.declared.thread_fault.ThreadFault.TheVariants.{Memory, Spawn}
use Rattle.gw_run.specs.declared.run_fault.RunFault.{RunFault}
use Rattle.gw_run.specs.declared.run_fault.RunFault.TheVariants.{Memory as NoMemory, Spawn as NoThread}

-- a failed allocation stays one, and so does a thread that could not be started
abbrev pub fault_of : ThreadFault → RunFault
fault_of Memory = NoMemory
fault_of Spawn = NoThread
