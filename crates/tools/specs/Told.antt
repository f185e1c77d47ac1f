-- How a tool tells a fault of the site.
use Rattle.model.specs.declared.fault.SiteFault.{SiteFault}
use Rattle.model.specs.declared.fault.SiteFault.TheVariants as site
use Rattle.tools.specs.declared.fault.Fault.{Fault}
use Rattle.tools.specs.declared.fault.Fault.TheVariants.{Memory, Site}

abbrev pub told_fault : SiteFault → Fault
told_fault site.Device = Site site.Device
told_fault site.Stopped = Site site.Stopped
told_fault site.Memory = Memory
