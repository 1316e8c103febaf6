use Rattle.ct_commands.proofs.refusing.refuse_link.Goals as goal

pub returns-in-Export : goal.returns-in-Export
returns-in-Export g c = rw c.in-Export.is (rw c.owner_name-in-Export.ensures at c.refuse_owner.ensures)

pub returns-in-NoRoom : goal.returns-in-NoRoom
returns-in-NoRoom g c = rw c.in-NoRoom.is c.refuse_room.ensures

pub returns-in-Import : goal.returns-in-Import
returns-in-Import g c = rw c.in-Import.is (rw c.owner_name-in-Import.ensures at c.refuse_owner-in-Import.ensures)

pub returns-in-Initial : goal.returns-in-Initial
returns-in-Initial g c = rw c.in-Initial.is (rw c.owner_name-in-Initial.ensures at c.refuse_owner-in-Initial.ensures)
