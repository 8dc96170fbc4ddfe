-- What an error of the system says of a file.
use Rattle.std.specs.declared.io.ErrorKind.{ErrorKind}
use Rattle.std.specs.declared.io.ErrorKind.TheVariants.{NotFound}
use Rattle.bfgp_outside.specs.declared.shelf.ShelfFault.{ShelfFault}
use Rattle.bfgp_outside.specs.declared.shelf.ShelfFault.TheVariants.{Absent, Failed}

-- a file that is not found is absent, and any other error is a failed read
abbrev pub fault_of : ErrorKind → ShelfFault
fault_of NotFound = Absent
fault_of _ = Failed
